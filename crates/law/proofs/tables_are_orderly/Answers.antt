use Rattle.law.proofs.Theorem.{always_orderly}
use Rattle.law.proofs.tables_are_orderly.Goals as goal

pub returns : goal.returns
returns g c = always_orderly g.row.V.Denot g.row.C.Denot
