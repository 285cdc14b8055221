use Rattle.std.proofs.Common.{ℕ, set, ap, ◌∙◌}
use Rattle.engine.proofs.Grants.{draft_unseen}
use Rattle.engine.proofs.Engine.start_draft.Goals as goal

pub returns-then-eq-clause-stations : goal.returns-then-eq-clause-stations
returns-then-eq-clause-stations g c =
    let drafts = g.D.Shelf.rows c.args.self.now.drafts in let new = c.standing_before-before.result in
    draft_unseen g.K.Kind.home drafts (g.D.Shelf.rows c.write.new.self) c.args.self.now.locks c.args.s c.args.at c.held-k.result c.args.mode new c.requires c.held-k.ensures.held
    (c.write.ensures.after ∙ ap (λ (n : ℕ). set drafts n new) c.draft_row.ensures)
