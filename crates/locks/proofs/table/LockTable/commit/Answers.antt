use Rattle.std.proofs.Common.{◌+◌, ◌≤◌, sym, arith, rules}
use Rattle.locks.specs.View.{attempts}
use Rattle.locks.proofs.Kept.{counted_kept}
use Rattle.locks.proofs.table.LockTable.commit.Goals as goal

-- the commit and the attempts left had stamps of their own
counted : (c : goal.Then-counts) → c.args.self.now.commits + 1 + attempts c.free.new.self.stations ≤ c.args.self.now.next
counted c =
    let t = c.args.self.now in
    counted_kept t.stations c.args.s t.next t.commits c.free.new.self.stations c.free.ensures.stations (sym c.if-counts.ensures) t.full t.stamped

pub overflow_add-self : goal.overflow_add-self
overflow_add-self c = let fits = counted c in let same = c.free.ensures.commits in search rules

pub invariant_of-self : goal.invariant_of-self
invariant_of-self c =
    let u = c.free.new.self in
    let fits = counted c in
    record { full = u.full; room = u.room; stamped = omega (arith, fits, c.free.ensures.commits, c.free.ensures.stamps); width = u.width }
