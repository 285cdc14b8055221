use Rattle.std.proofs.Common.{sym, ap, ◌∙◌}
use Rattle.locks.specs.declared.table.LockTable.{LockTable}
use Rattle.locks.specs.View.{stations_with}
use Rattle.locks.specs.Changes.{change, granted}
use Rattle.engine.specs.View.{drafted, shown}
use Rattle.engine.proofs.Grants.{granted_station, nothing_granted}
use Rattle.engine.proofs.Engine.grant.Goals as goal

pub returns-in-Some-clause-stations : goal.returns-in-Some-clause-stations
returns-in-Some-clause-stations g c =
    let e = c.args.self.now in let s = c.args.s in
    let those = drafted g.K.Kind g.D.Shelf c.start_draft.new.self in let started = c.start_draft.ensures in let waits = c.in-Some.ensures in λ served.
    granted_station (drafted g.K.Kind g.D.Shelf e) those (shown g.K.Kind g.S.Shelf e) e.locks s c.grant.new.self.stations c.in-Some.at c.in-Some.mode waits
    (c.grant.ensures.stations ∙ ap (λ (l : LockTable). change granted s l.stations) started.locks)
    (ap (λ (l : LockTable). stations_with those l.stations) (sym started.locks) ∙ started.stations)
    (started.draft (served s (c.in-Some.at, c.in-Some.mode) waits))

pub returns-in_default-clause-stations : goal.returns-in_default-clause-stations
returns-in_default-clause-stations g c = λ _.
    let e = c.args.self.now in let drafts = drafted g.K.Kind g.D.Shelf e in
    nothing_granted drafts drafts (shown g.K.Kind g.S.Shelf e) e.locks c.args.s c.in_default.ensures
