use Rattle.std.proofs.Common.{◌+◌, ◌*◌, ap, ◌∙◌}
use Rattle.std.specs.List.{slice_get}
use Rattle.engine.proofs.RowsRead.{read_or, draft_row}
use Rattle.engine.proofs.Engine.draft_at.Goals as goal

pub returns : goal.returns
returns g c =
    let home = g.K.Kind.home in let rows = g.D.Shelf.rows c.args.self.now.drafts in let s = c.args.s in let k = c.args.k in
    read_or rows (16 * s + k) home _ _ _ c.unwrap_or.ensures (c.read.ensures ∙ ap (slice_get rows) c.draft_row.ensures) c.home.ensures ∙ draft_row home rows s k c.requires.1
