use Rattle.std.proofs.Common.{rules}
use Rattle.rules.specs.Operations.{grantable}
use Rattle.locks.specs.View.{bare}
use Rattle.locks.proofs.Searches.{first_found}
use Rattle.locks.proofs.table.LockTable.grantable.Goals as goal

pub returns-clause-first : goal.returns-clause-first
returns-clause-first c = first_found 16 (grantable (bare c.args.self.now.stations)) _ c.find.ensures.ran (λ x b q k. search rules)
