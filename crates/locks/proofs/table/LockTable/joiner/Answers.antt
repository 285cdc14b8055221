use Rattle.std.proofs.Common.{rules}
use Rattle.rules.specs.Operations.{joins}
use Rattle.locks.specs.View.{bare, member_of}
use Rattle.locks.proofs.Searches.{first_found}
use Rattle.locks.proofs.table.LockTable.joiner.Goals as goal

pub returns-clause-first : goal.returns-clause-first
returns-clause-first c = first_found 16 (joins (bare c.args.self.now.stations) (member_of c.args.members.now)) _ c.find.ensures.ran (λ x b q k. search rules)
