use Rattle.std.proofs.Common.{rules}
use Rattle.locks.proofs.Hands.{conflicts_seen}
use Rattle.locks.proofs.station.Station.conflicts_on.Goals as goal

pub returns : goal.returns
returns c = conflicts_seen c.args.mode c.args.at c.args.self.now c.hold_on.result c.is_some_and.result c.hold_on.ensures (search rules)
