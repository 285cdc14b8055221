use Rattle.std.proofs.Common.{sym, refl, ap, ◌∙◌}
use Rattle.rules.specs.declared.Answer.TheVariants.{Value}
use Rattle.rules.specs.declared.Call.TheVariants.{Look}
use Rattle.locks.specs.Admission.{refusal_in}
use Rattle.engine.specs.View.{view, drafted, shown}
use Rattle.engine.proofs.Steps.{handed_step, accepted_step}
use Rattle.engine.proofs.Holders.{look_refusal, looked}
use Rattle.engine.proofs.Engine.look.Goals as goal

pub returns-in_err-s : goal.returns-in_err-s
returns-in_err-s g c =
    let e = c.args.self.now in let s = c.args.station in let r = c.args.at in
    handed_step g.K.Kind.applied (Look s r) (view g.K.Kind g.S.Shelf g.D.Shelf e) Value _ _ c.from_residual.ensures.1
    (look_refusal g.row.K-Change.Denot (drafted g.K.Kind g.D.Shelf e) (shown g.K.Kind g.S.Shelf e) e.locks s r c.records-records.result _ _ c.records-records.ensures
    (sym (ap refusal_in c.in_err-s.was) ∙ c.admit_hold.ensures.refusal))

pub returns : goal.returns
returns g c =
    let e = c.args.self.now in let drafts = drafted g.K.Kind g.D.Shelf e in let show = shown g.K.Kind g.S.Shelf e in
    let s = c.args.station in let r = c.args.at in let t = view g.K.Kind g.S.Shelf g.D.Shelf e in let hold = c.in_ok-s.ensures.place in
    accepted_step g.K.Kind.applied (Look s r) t _ t
    (look_refusal g.row.K-Change.Denot drafts show e.locks s r c.records-records.result _ _ c.records-records.ensures c.in_ok-s.ensures.refusal)
    (ap Value (looked drafts show e.locks s r c.in_ok-s.s c.in_ok-s.k c.value_seen.result hold.station hold.place hold.place_below c.value_seen.ensures))
    refl
