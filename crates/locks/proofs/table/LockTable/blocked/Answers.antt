use Rattle.std.proofs.Common.{rules}
use Rattle.rules.specs.Operations.{blocks}
use Rattle.locks.specs.View.{bare}
use Rattle.locks.proofs.Searches.{any_found}
use Rattle.locks.proofs.table.LockTable.blocked.Goals as goal

pub returns : goal.returns
returns c = any_found 16 (blocks (bare c.args.self.now.stations) c.args.i c.args.at c.args.mode) _ c.any.ensures.ran (λ x b q k. search rules)
