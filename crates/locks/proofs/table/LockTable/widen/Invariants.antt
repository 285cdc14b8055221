use Rattle.locks.specs.View.{bare, member_of}
use Rattle.locks.proofs.Widening.{outside, Widens}
use Rattle.locks.proofs.table.LockTable.widen.Given as goal

abbrev pub invariant-loop-k : goal.invariant-loop-k
invariant-loop-k l = Widens (bare l.self.stations) (member_of l.fn.members) (member_of l.widened)

abbrev pub decreases-loop-k : goal.decreases-loop-k
decreases-loop-k l = outside (member_of l.widened)
