use Rattle.std.proofs.Common.{rules, ◌≡◌, ◌&&◌, Bool, length, is_some, sym, ◌∙◌}
use Rattle.std.specs.List.{list_any}
use Rattle.std.proofs.lemmas.Iterator.{YieldsList-from_slice}
use Rattle.std.proofs.lemmas.Iterator.Search.{any_from_yields_List}
use Rattle.rules.specs.declared.Mode.TheVariants.{Shared}
use Rattle.rules.specs.Tables.{conflict, hold_on}
use Rattle.locks.specs.declared.station.Hold.{Hold}
use Rattle.locks.specs.Hand.{no_hold}
use Rattle.locks.specs.View.{held_by}
use Rattle.locks.proofs.Places.{any_by_place}
use Rattle.locks.proofs.Hands.{common_by_place}
use Rattle.locks.proofs.station.Station.exclusive_in_common.Goals as goal

pub returns : goal.returns
returns c =
    let hand = c.args.self.now.hand.items in
    let other = held_by c.args.other.now in
    let shared : Hold → Bool = λ h. conflict Shared h.mode && is_some (hold_on h.at other) in
    let found : c.any.result ≡ list_any shared hand =
    any_from_yields_List shared _ _ c.any.result c.any.ensures.ran (YieldsList-from_slice hand (search rules)) (λ x b q k. search rules) in
    found ∙ any_by_place shared no_hold hand ∙ sym (common_by_place (λ k. tt {0}) hand other (length hand))
