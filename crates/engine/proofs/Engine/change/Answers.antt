use Rattle.std.proofs.Common.{ℕ, ◌<◌, set, sym, ap, ◌∙◌, rules}
use Rattle.rules.specs.declared.Answer.TheVariants.{Value}
use Rattle.rules.specs.declared.Call.TheVariants.{Change}
use Rattle.locks.specs.Admission.{refusal_in}
use Rattle.engine.specs.View.{view, drafted, shown}
use Rattle.engine.proofs.Steps.{handed_step}
use Rattle.engine.proofs.Holders.{change_refusal, changed_step}
use Rattle.engine.proofs.Engine.change.Goals as goal

pub returns-in_err-s-clause-ruled : goal.returns-in_err-s-clause-ruled
returns-in_err-s-clause-ruled g c =
    let e = c.args.self.now in let s = c.args.station in let r = c.args.at in
    handed_step g.K.Kind.applied (Change s r c.args.by) (view g.K.Kind g.S.Shelf g.D.Shelf e) Value _ _ c.from_residual.ensures.1
    (change_refusal _ (drafted g.K.Kind g.D.Shelf e) (shown g.K.Kind g.S.Shelf e) e.locks s r c.records-records.result _ _ c.args.by c.records-records.ensures
    (sym (ap refusal_in c.in_err-s.was) ∙ c.admit_change.ensures.refusal))

pub returns-clause-ruled : goal.returns-clause-ruled
returns-clause-ruled g c =
    let e = c.args.self.now in let drafts = g.D.Shelf.rows e.drafts in let new = c.apply-new.result in let hold = c.in_ok-s.ensures.place in
    let small : c.in_ok-s.k < 16 = search rules in
    changed_step g.K.Kind.applied g.K.Kind.home (g.S.Shelf.rows e.show) drafts (g.D.Shelf.rows c.write.new.self) e.locks c.args.by c.args.station c.args.at c.in_ok-s.s c.in_ok-s.k c.records-records.result new
    hold.station hold.place small (sym c.in_ok-s.ensures.refusal) c.records-records.ensures
    (c.apply-new.ensures ∙ ap (λ x. g.K.Kind.applied x c.args.by) c.draft_at.ensures)
    (c.write.ensures.after ∙ ap (λ (n : ℕ). set drafts n new) c.draft_row.ensures)
