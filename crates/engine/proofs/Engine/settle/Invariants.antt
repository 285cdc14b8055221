use Rattle.std.proofs.Common.{◌≡◌, ◌-◌}
use Rattle.engine.specs.View.{shown, stations_of}
use Rattle.engine.specs.Promoting.{Served, OnlyStations}
use Rattle.engine.proofs.Grants.{promote_within}
use Rattle.engine.proofs.Engine.settle.Given as goal

abbrev pub invariant-loop-round : goal.invariant-loop-round
invariant-loop-round g l =
    (Served g.D.Shelf l.initial.self → Served g.D.Shelf l.self)
    × (Served g.D.Shelf l.initial.self
    → promote_within (16 - l._round) (shown g.K.Kind g.S.Shelf l.initial.self) (stations_of g.K.Kind g.D.Shelf l.self)
    ≡ promote_within 16 (shown g.K.Kind g.S.Shelf l.initial.self) (stations_of g.K.Kind g.D.Shelf l.initial.self))
    × OnlyStations g.D.Shelf l.initial.self l.self
