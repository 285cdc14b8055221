use Rattle.std.proofs.Common.{rules}
use Rattle.locks.specs.Changes.{again}
use Rattle.locks.proofs.Kept.{again_keeps}
use Rattle.locks.proofs.table.LockTable.again.Goals as goal

pub change-requires-clause-kept : goal.change-requires-clause-kept
change-requires-clause-kept c = (again, again_keeps, λ old new left. search rules)

pub returns-clause-stations : goal.returns-clause-stations
returns-clause-stations c = c.change.ensures.stations again (λ old new left. search rules)
