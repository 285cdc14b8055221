use Rattle.rules.proofs.Cases.{misreadings_held_off}
use Rattle.rules.proofs.misreadings_held_off.Goals as goal

pub returns : goal.returns
returns c = misreadings_held_off
