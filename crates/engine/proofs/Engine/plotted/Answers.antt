use Rattle.std.proofs.Common.{◌<◌, ◌≤◌, refl, ap, subst}
use Rattle.rules.specs.declared.Refusal.TheVariants.{Record}
use Rattle.rules.specs.declared.Answer.TheVariants.{Value}
use Rattle.rules.specs.declared.Call.TheVariants.{Plotted}
use Rattle.engine.specs.View.{view}
use Rattle.engine.proofs.Steps.{accepted_step, refused_step, test_fails, test_holds}
use Rattle.engine.proofs.Engine.plotted.Goals as goal

pub returns-then-at-records : goal.returns-then-at-records
returns-then-at-records g c =
    let t = view g.K.Kind g.S.Shelf g.D.Shelf c.args.self.now in
    accepted_step g.K.Kind.applied (Plotted c.args.at) t _ t (test_fails _ _ (subst (λ n. c.args.at < n) c.records.ensures c.if-at-records.true)) (ap Value c.value_at.ensures) refl

pub returns-else-at-records : goal.returns-else-at-records
returns-else-at-records g c =
    refused_step g.K.Kind.applied (Plotted c.args.at) (view g.K.Kind g.S.Shelf g.D.Shelf c.args.self.now) Record (test_holds _ _ (subst (λ n. n ≤ c.args.at) c.records.ensures c.if-at-records.false))
