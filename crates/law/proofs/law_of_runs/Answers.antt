use Rattle.law.proofs.Theorem.{lawful}
use Rattle.law.proofs.law_of_runs.Goals as goal

pub returns : goal.returns
returns g c = lawful g.row.V.Denot g.row.C.Denot
