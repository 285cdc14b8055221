use Rattle.std.proofs.Common.{rules}
use Rattle.locks.specs.Changes.{granted}
use Rattle.locks.proofs.Kept.{granted_keeps}
use Rattle.locks.proofs.table.LockTable.grant.Goals as goal

pub change-requires-clause-kept : goal.change-requires-clause-kept
change-requires-clause-kept c = (granted, granted_keeps, λ old new left. search rules)

pub returns-clause-stations : goal.returns-clause-stations
returns-clause-stations c = c.change.ensures.stations granted (λ old new left. search rules)
