use Rattle.std.proofs.Common.{rules}
use Rattle.locks.specs.Asked.{binds_on}
use Rattle.locks.proofs.Searches.{any_found}
use Rattle.locks.proofs.table.LockTable.bound_on.Goals as goal

pub returns : goal.returns
returns c = any_found 16 (binds_on c.args.self.now.stations c.args.i c.args.at c.args.mode) _ c.any.ensures.ran (λ x b q k. search rules)
