use Rattle.std.proofs.Common.{◌≡◌}
use Rattle.engine.specs.View.{drafted, hand_of, with_drafts}
use Rattle.engine.specs.Answers.{Kept}
use Rattle.engine.proofs.Engine.write_drafts.Given as goal

abbrev pub invariant-loop-k : goal.invariant-loop-k
invariant-loop-k g l =
    (g.S.Shelf.rows l.self.show ≡ with_drafts (drafted g.K.Kind g.D.Shelf l.initial.self l.s) (hand_of l.initial.self.locks l.s) l.k (g.S.Shelf.rows l.initial.self.show))
    × Kept g.S.Shelf l.initial.self.show l.self.show
    × (l.self.drafts ≡ l.initial.self.drafts)
    × (l.self.locks ≡ l.initial.self.locks)
