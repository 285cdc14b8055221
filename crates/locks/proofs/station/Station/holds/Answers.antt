use Rattle.std.proofs.Common.{is_some, ap, ◌∙◌}
use Rattle.locks.proofs.Hands.{holds_seen}
use Rattle.locks.proofs.station.Station.holds.Goals as goal

pub returns : goal.returns
returns c = c.is_some.ensures ∙ ap is_some c.hold_on.ensures ∙ holds_seen c.args.at c.args.self.now
