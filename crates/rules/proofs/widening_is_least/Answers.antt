use Rattle.rules.proofs.Widening.{widening_is_least}
use Rattle.rules.proofs.widening_is_least.Goals as goal

pub returns : goal.returns
returns g c = widening_is_least g.row.V.Denot
