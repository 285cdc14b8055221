use Rattle.law.proofs.EmptyEngines.{empty_engines_refused}
use Rattle.law.proofs.empty_engines_refused.Goals as goal

pub returns : goal.returns
returns c = empty_engines_refused
