use Rattle.std.proofs.Common.{◌<◌, ◌≤◌, arith, rules}
use Rattle.locks.proofs.Kept.{begun_kept}
use Rattle.locks.proofs.table.LockTable.begin.Goals as goal

pub invariant_of-self : goal.invariant_of-self
invariant_of-self c =
    let t = c.args.self.now in
    let below : c.args.s < 16 = search rules in
    let last : t.next ≤ 4000000000 = search rules in
    begun_kept t.stations c.args.s t.next t.commits c.start.new.self below c.start.ensures t.full t.room t.stamped (omega (arith, last))
