use Rattle.std.proofs.Common.{refl}
use Rattle.rules.specs.declared.Answer.TheVariants.{Stands}
use Rattle.rules.specs.declared.Call.TheVariants.{Standing}
use Rattle.locks.proofs.Drafts.{standing_same}
use Rattle.engine.specs.View.{view, drafts_of}
use Rattle.engine.proofs.Steps.{asked_step}
use Rattle.engine.proofs.Engine.standing.Goals as goal

pub returns : goal.returns
returns g c =
    let t = view g.K.Kind g.S.Shelf g.D.Shelf c.args.self.now in
    asked_step g.K.Kind.applied (Standing c.args.station) t Stands c.standing.result _ _ c.standing.ensures refl refl
    (standing_same (drafts_of g.K.Kind.home (g.D.Shelf.rows c.args.self.now.drafts)) (λ i k. tt {0}) c.args.self.now.locks.stations c.args.station) refl
