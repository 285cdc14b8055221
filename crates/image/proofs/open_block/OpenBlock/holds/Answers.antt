use Rattle.std.proofs.Common.{List, ℕ, ap, ◌∙◌}
use Rattle.std.specs.Str.{bytes_eq}
use Rattle.image.proofs.Chunks.{row_at}
use Rattle.image.proofs.open_block.OpenBlock.holds.Goals as goal

pub returns : goal.returns
returns c = c.eq.ensures ∙ ap (λ (r : List ℕ). bytes_eq r c.args.row.now) (row_at c.args.self.now.block.now c.rows_of.result.now c.args.k c.rows_of.ensures.rows c.requires)
