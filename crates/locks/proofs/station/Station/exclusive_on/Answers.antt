use Rattle.std.proofs.Common.{rules, length}
use Rattle.locks.proofs.Hands.{exclusive_seen}
use Rattle.locks.proofs.station.Station.exclusive_on.Goals as goal

pub returns-clause-place : goal.returns-clause-place
returns-clause-place c =
    let hand = c.args.self.now.hand.items in
    exclusive_seen c.args.at hand (length hand) c.place_on.result c.filter.result c.place_on.ensures.place (search rules)
