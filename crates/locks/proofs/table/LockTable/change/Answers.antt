use Rattle.std.proofs.Common.{get_or, set, refl, ap}
use Rattle.std.specs.Fn.{FnOnceReturnsAtMut}
use Rattle.locks.proofs.Kept.{kept_by, read_as}
use Rattle.locks.proofs.table.LockTable.change.Goals as goal

pub invariant_of-self : goal.invariant_of-self
invariant_of-self g c =
    let t = c.args.self.now in
    let kept = c.requires.kept in
    let d = c.index-self-s.result in
    let y = c.by.new.arg2 in
    let gave : FnOnceReturnsAtMut g.F.FnOnce c.args.by (get_or t.stations c.args.s d) tt y = record { shown = _; shows = refl; left = _; met = c.by.ensures; leaves = refl } in
    kept_by kept.0 kept.1 t.stations c.args.s t.next t.commits d y c.if-s-lt16.true (kept.2 (get_or t.stations c.args.s d) y gave) t.full t.room t.stamped t.width

pub returns-then-s-lt16-clause-stations : goal.returns-then-s-lt16-clause-stations
returns-then-s-lt16-clause-stations g c f does =
    let t = c.args.self.now in
    let d = c.index-self-s.result in
    let y = c.by.new.arg2 in
    let gave : FnOnceReturnsAtMut g.F.FnOnce c.args.by (get_or t.stations c.args.s d) tt y = record { shown = _; shows = refl; left = _; met = c.by.ensures; leaves = refl } in
    ap (set t.stations c.args.s) (read_as f t.stations c.args.s d y c.if-s-lt16.true (does (get_or t.stations c.args.s d) y gave) t.full)
