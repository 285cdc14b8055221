use Rattle.std.proofs.Common.{rules}
use Rattle.locks.specs.Changes.{freed}
use Rattle.locks.proofs.Kept.{freed_keeps}
use Rattle.locks.proofs.table.LockTable.free.Goals as goal

pub change-requires-clause-kept : goal.change-requires-clause-kept
change-requires-clause-kept c = (freed, freed_keeps, λ old new left. search rules)

pub returns-clause-stations : goal.returns-clause-stations
returns-clause-stations c = c.change.ensures.stations freed (λ old new left. search rules)
