use Rattle.std.proofs.Common.{refl}
use Rattle.values.proofs.Timed.{reads}
use Rattle.values.proofs.timing.numbers.TimingTryFromTimingNumbers.try_from.Goals as goal

pub returns-in-Ok : goal.returns-in-Ok
returns-in-Ok c = reads _ _ c.in-Ok.link refl refl refl refl c.in-Ok.ensures
