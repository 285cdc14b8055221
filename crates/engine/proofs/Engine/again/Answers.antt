use Rattle.std.proofs.Common.{length, sym, ap, ◌∙◌}
use Rattle.rules.specs.declared.Answer.TheVariants.{Number}
use Rattle.rules.specs.declared.Call.TheVariants.{Again}
use Rattle.locks.specs.View.{stamp_at}
use Rattle.engine.specs.View.{view, drafted, shown, records_of}
use Rattle.engine.proofs.Steps.{refusal_of, admission_of, handed_step, accepted_step}
use Rattle.engine.proofs.Starts.{begun_again}
use Rattle.engine.proofs.Engine.again.Goals as goal

pub returns-in_err-s-clause-ruled : goal.returns-in_err-s-clause-ruled
returns-in_err-s-clause-ruled g c =
    handed_step g.K.Kind.applied (Again c.args.station) (view g.K.Kind g.S.Shelf g.D.Shelf c.args.self.now) Number _ _ c.from_residual.ensures.1
    (refusal_of c.args.station _ _ (sym c.in_err-s.was ∙ c.admit_again.ensures))

pub returns-clause-ruled : goal.returns-clause-ruled
returns-clause-ruled g c =
    let e = c.args.self.now in let t = e.locks in let s = c.args.station in let left = c.again.ensures in
    let ok = admission_of s c.in_ok-s.s _ (sym c.in_ok-s.was ∙ c.admit_again.ensures) in
    accepted_step g.K.Kind.applied (Again s) (view g.K.Kind g.S.Shelf g.D.Shelf e) _ _ ok.0 (ap Number (c.again.ensures.stamp ∙ ap (stamp_at t.stations) ok.1))
    (begun_again g.K.Kind.applied (drafted g.K.Kind g.D.Shelf e) (shown g.K.Kind g.S.Shelf e) t c.again.new.self (records_of (length (g.S.Shelf.rows e.show)) (length (g.D.Shelf.rows e.drafts)))
    s c.in_ok-s.s ok.1 ok.0 t.full left.stations left.stamps left.commits)
