use Rattle.std.proofs.Common.{rules, length}
use Rattle.std.proofs.iter.runs.Made.{chains}
use Rattle.locks.proofs.Hands.{last_place}
use Rattle.locks.proofs.station.Station.place_on.Goals as goal

pub returns-clause-place : goal.returns-clause-place
returns-clause-place c =
    let hand = c.args.self.now.hand.items in
    last_place c.args.at hand (length hand) c.rposition.result (search (rules, chains))
