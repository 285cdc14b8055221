use Rattle.std.proofs.Common.{length}
use Rattle.engine.specs.View.{show_of, records_of, view}
use Rattle.engine.specs.Answers.{Kept}
use Rattle.runs.proofs.Lawful.{After}
use Rattle.runs.proofs.playing.play.Given as goal

abbrev pub invariant-loop-entry : goal.invariant-loop-entry
invariant-loop-entry g l =
    After g.K.Kind.applied l.first (records_of (length (g.S.Shelf.rows l.initial.engine.show)) (length (g.D.Shelf.rows l.initial.engine.drafts))) (show_of g.K.Kind.home (g.S.Shelf.rows l.initial.engine.show))
    l.initial.entry-items l.entry-items l.entry-index (view g.K.Kind g.S.Shelf g.D.Shelf l.engine)
    × Kept g.S.Shelf l.initial.engine.show l.engine.show
    × Kept g.D.Shelf l.initial.engine.drafts l.engine.drafts
