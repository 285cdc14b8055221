use Rattle.std.proofs.Common.{rules, ◌≡◌, Bool, length, sym, ◌∙◌}
use Rattle.std.specs.List.{count_by}
use Rattle.std.proofs.iter.runs.Made.{chains}
use Rattle.rules.specs.Searches.{any_below}
use Rattle.rules.specs.Operations.{bonds}
use Rattle.locks.specs.declared.station.Hold.{Hold}
use Rattle.locks.specs.Hand.{no_hold}
use Rattle.locks.specs.View.{hand_at}
use Rattle.locks.specs.Asked.{binds_on}
use Rattle.locks.proofs.Places.{count_by_place}
use Rattle.locks.proofs.Bonds.{no_bonds_past, bonds_by_place}
use Rattle.locks.proofs.table.LockTable.bonds.Goals as goal

pub returns-in_default : goal.returns-in_default
returns-in_default c = sym (no_bonds_past c.args.self.now.stations c.args.i (search rules))

pub returns : goal.returns
unfolding bonds
returns c =
    let xs = c.args.self.now.stations in
    let hand = hand_at xs c.args.i in
    let bound : Hold → Bool = λ h. any_below 16 (binds_on xs c.args.i h.at h.mode) in
    let counted : c.count-bound.result ≡ count_by bound hand = search (rules, chains) in
    counted ∙ count_by_place bound no_hold hand ∙ sym (bonds_by_place xs c.args.i hand (length hand))
