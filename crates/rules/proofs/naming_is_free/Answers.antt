use Rattle.rules.proofs.Naming.{naming_is_free}
use Rattle.rules.proofs.naming_is_free.Goals as goal

pub returns : goal.returns
returns g c = naming_is_free g.row.V.Denot g.row.C.Denot
