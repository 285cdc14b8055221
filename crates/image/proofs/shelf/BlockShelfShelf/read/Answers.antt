use Rattle.std.proofs.Common.{ap, ◌∙◌, rules}
use Rattle.image.specs.Images.{or_home}
use Rattle.image.proofs.RowsWritten.{row_value, no_row}
use Rattle.image.proofs.shelf.BlockShelfShelf.read.Goals as goal

pub returns-then-n-rows_in : goal.returns-then-n-rows_in
returns-then-n-rows_in g c = no_row g.K.Kind.home g.K.Kind.unpacked c.args.self.now.image.now c.args.n (search rules)

-- which value `read` falls back on is left to the tactic
pub returns : goal.returns
returns g c =
    let home = g.K.Kind.home in let unpacked = g.K.Kind.unpacked in
    row_value home unpacked c.args.self.now.image.now c.args.n _ (search rules) (search rules ∙ ap (or_home home) (c.unpack.ensures ∙ ap unpacked c.get.ensures))
