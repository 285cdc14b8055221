use Rattle.std.proofs.Common.{rules}
use Rattle.locks.specs.Changes.{retired_at}
use Rattle.locks.proofs.Kept.{retired_keeps}
use Rattle.locks.proofs.table.LockTable.retire.Goals as goal

pub change-requires-clause-kept : goal.change-requires-clause-kept
change-requires-clause-kept c = (retired_at c.args.place, retired_keeps c.args.place, λ old new left. search rules)

pub returns-clause-stations : goal.returns-clause-stations
returns-clause-stations c = c.change.ensures.stations (retired_at c.args.place) (λ old new left. search rules)
