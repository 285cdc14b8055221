use Rattle.std.proofs.Common.{rules}
use Rattle.locks.specs.Changes.{awaiting}
use Rattle.locks.proofs.Kept.{awaiting_keeps}
use Rattle.locks.proofs.table.LockTable.wait.Goals as goal

pub change-requires-clause-kept : goal.change-requires-clause-kept
change-requires-clause-kept c = (awaiting c.args.at c.args.mode, awaiting_keeps c.args.at c.args.mode, λ old new left. search rules)

pub returns-clause-stations : goal.returns-clause-stations
returns-clause-stations c = c.change.ensures.stations (awaiting c.args.at c.args.mode) (λ old new left. search rules)
