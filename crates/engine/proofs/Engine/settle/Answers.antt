use Rattle.std.proofs.Common.{◌+◌, ◌-◌, sym, ap, ◌∙◌, arith}
use Rattle.rules.specs.Operations.{grant}
use Rattle.engine.specs.View.{drafted, shown, stations_of}
use Rattle.engine.proofs.Grants.{promote_within, promote_round, promote_done, promote_over, promote_all, one_fewer, stations_both}
use Rattle.engine.proofs.Engine.settle.Goals as goal

pub loop-round-preserved : goal.loop-round-preserved
loop-round-preserved g c =
    let n = c.loop-round._round in let show = shown g.K.Kind g.S.Shelf c.args.self.now in
    let here = c.loop-round.self in let inv = c.loop-round.invariant in (
      λ served. c.grant.ensures.served (inv.0 served),
      λ served.
          ap (promote_within (16 - (n + 1)) show) (c.grant.ensures.stations (inv.0 served))
          ∙ ap (λ x. promote_within (16 - (n + 1)) show (grant (shown g.K.Kind g.S.Shelf record here { show = x }) c.in-Some.s (stations_of g.K.Kind g.D.Shelf here))) inv.2.same_show
          ∙ sym (promote_round show (drafted g.K.Kind g.D.Shelf here) here.locks.stations (16 - n) (16 - (n + 1)) c.in-Some.s (one_fewer n c.loop-round-test.true) c.in-Some.ensures.first)
          ∙ inv.1 served,
      stations_both g.D.Shelf inv.2 c.grant.ensures.rest,
    )

pub returns-in-None-clause-stations : goal.returns-in-None-clause-stations
returns-in-None-clause-stations g c =
    let n = c.loop-round._round in let show = shown g.K.Kind g.S.Shelf c.args.self.now in let here = c.loop-round.self in λ served.
    sym (promote_done show (drafted g.K.Kind g.D.Shelf here) here.locks.stations (16 - n) (16 - (n + 1)) (one_fewer n c.loop-round-test.true) c.in-None.ensures.first)
    ∙ c.loop-round.invariant.1 served ∙ promote_all show (stations_of g.K.Kind g.D.Shelf c.args.self.now)

pub returns-clause-stations : goal.returns-clause-stations
returns-clause-stations g c =
    let show = shown g.K.Kind g.S.Shelf c.args.self.now in λ served.
    sym (promote_over show (16 - c.loop-round._round) (stations_of g.K.Kind g.D.Shelf c.loop-round.self) (omega arith))
    ∙ c.loop-round.invariant.1 served ∙ promote_all show (stations_of g.K.Kind g.D.Shelf c.args.self.now)
