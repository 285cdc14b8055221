use Rattle.std.proofs.Common.{refl, ap}
use Rattle.rules.specs.declared.Answer.TheVariants.{Number}
use Rattle.rules.specs.declared.Call.TheVariants.{Count}
use Rattle.engine.specs.View.{view}
use Rattle.engine.proofs.Steps.{accepted_step}
use Rattle.engine.proofs.Engine.count.Goals as goal

pub returns : goal.returns
returns g c =
    let t = view g.K.Kind g.S.Shelf g.D.Shelf c.args.self.now in
    accepted_step g.K.Kind.applied Count t _ t refl (ap Number c.records.ensures) refl
