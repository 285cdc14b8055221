use Rattle.std.proofs.Common.{◌≡◌}
use Rattle.locks.specs.View.{member_of}
use Rattle.locks.specs.Changes.{wounded_below}
use Rattle.locks.proofs.table.LockTable.wound.Given as goal

abbrev pub invariant-loop-s : goal.invariant-loop-s
invariant-loop-s l = l.station-items ≡ wounded_below l.s (member_of l.members) l.initial.station-items
