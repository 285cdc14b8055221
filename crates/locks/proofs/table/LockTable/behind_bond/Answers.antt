use Rattle.std.proofs.Common.{rules, ◌≡◌, Bool, length, get_or, sym, arith, ◌∙◌}
use Rattle.std.specs.List.{list_any}
use Rattle.std.proofs.lemmas.Iterator.{YieldsList-from_slice}
use Rattle.std.proofs.lemmas.Iterator.Search.{any_from_yields_List}
use Rattle.std.proofs.lemmas.List.{get_or_default}
use Rattle.locks.specs.declared.station.Hold.{Hold}
use Rattle.locks.specs.Hand.{no_hold}
use Rattle.locks.specs.View.{no_station, hand_at}
use Rattle.locks.specs.Asked.{binds_on}
use Rattle.locks.proofs.Places.{any_by_place}
use Rattle.locks.proofs.Bonds.{behind_by_place}
use Rattle.locks.proofs.table.LockTable.behind_bond.Goals as goal

pub returns : goal.returns
returns c =
    let xs = c.args.self.now.stations in
    let hand = hand_at xs c.args.i in
    let read : get_or xs c.args.i c.index-self-i.result ≡ get_or xs c.args.i no_station = get_or_default xs c.args.i c.index-self-i.result no_station (omega (arith, c.args.self.now.full)) in
    let binds : Hold → Bool = λ h. binds_on xs c.args.i h.at h.mode c.args.j in
    let found : c.any.result ≡ list_any binds hand =
    any_from_yields_List binds _ _ c.any.result c.any.ensures.ran (YieldsList-from_slice hand (search (rules, read))) (λ x b q k. search rules) in
    found ∙ any_by_place binds no_hold hand ∙ sym (behind_by_place xs c.args.i hand c.args.j (length hand))
