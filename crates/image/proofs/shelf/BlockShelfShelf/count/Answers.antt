use Rattle.std.proofs.Common.{◌∙◌}
use Rattle.image.proofs.RowsWritten.{rows_long}
use Rattle.image.proofs.shelf.BlockShelfShelf.count.Goals as goal

pub returns : goal.returns
returns g c = c.rows_in.ensures ∙ rows_long g.K.Kind.home g.K.Kind.unpacked c.args.self.now.image.now
