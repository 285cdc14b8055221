-- Wounding a widened set: who is in it, and what wounding keeps.
use Rattle.std.proofs.Common.{◌≡◌, ℕ, ◌<◌, Bool, true, false, cond, List, [], ◌∷◌, length, is_some, Some, None, sym, refl, ap, ◌∙◌, arith}
use Rattle.std.proofs.lemmas.Bool.{true_from_ne_false}
use Rattle.std.proofs.lemmas.Bool.Decides.{nat_tests}
use Rattle.rules.specs.declared.Mode.{Mode}
use Rattle.rules.specs.declared.Mode.TheVariants.{Exclusive}
use Rattle.rules.specs.Tables.{Hold, running, Stations, conflict, hold_mode, works, hold_on, wounded_station}
use Rattle.rules.specs.Operations.{widen, wound, must_yield, wounded_by_take, add_wait}
use Rattle.rules.specs.Widening.{holds, holds_exclusively}
use Rattle.rules.proofs.Widening.{found_holds, widened_has_first, widened_closed, widened_least}
use Rattle.rules.proofs.Spared.{taker_spared}
use Rattle.law.specs.Observer.{at_work}
use Rattle.law.proofs.Invariants.{Invariant, works_not_idle, holder_works, holder_not_idle, holder_in_range, AddsNothing, unchanged_adds_nothing, emptied_adds_nothing, adding_nothing_keeps, wait_keeps}

-- an exclusive hold found on a record is an exclusive hold of it
exclusive_found : {V : Type 0} (r : ℕ) (hs : List (Hold V)) (h : Hold V) → hold_on r hs ≡ Some h → hold_mode h ≡ Exclusive
    → holds_exclusively r hs ≡ true
exclusive_found r [] h e x = cc
exclusive_found r (g ∷ hs) h e x = grind (arith, exclusive_found r hs h)

module _ {V : Type 0} {t : Stations V} {next records : ℕ} (v : Invariant t next records) (first : ℕ → Bool) where
  -- every younger holder of what a member holds exclusively is a member
  pub closed_under_younger_holders : (i j r : ℕ) (h k : Hold V) → widen t first j ≡ true → hold_on r (t j).hand ≡ Some h
      → hold_mode h ≡ Exclusive → hold_on r (t i).hand ≡ Some k → (t j).stamp < (t i).stamp → widen t first i ≡ true
  closed_under_younger_holders i j r h k mj e x f l =
      widened_closed t first j i (holder_in_range v j r h e) (holder_in_range v i r k f) mj
      (r, exclusive_found r (t j).hand h e x, sym (found_holds r (t i).hand) ∙ ap is_some f, l)

  -- if the first members are at work, every member is
  pub members_at_work : ((i : ℕ) → first i ≡ true → works (t i).phase ≡ true) → (i : ℕ) → widen t first i ≡ true
      → works (t i).phase ≡ true
  members_at_work base = widened_least t first (λ i. works (t i).phase) base (λ j i _ _ _ f. true_from_ne_false (works (t i).phase)
      (λ q. let e : holds {V = V} f.0 [] ≡ true = rw (v.empty_handed i q) at f.2 in cc))

-- Wounding any set.

module _ {V : Type 0} (members : ℕ → Bool) (t : Stations V) where
  -- whoever is at work after wounding was spared
  pub at_work_spared : (i : ℕ) → works (wound members t i).phase ≡ true → members i ≡ false
  unfolding wound
  at_work_spared i w = grind arith

  -- whoever was spared is as before
  pub spared_same : (i : ℕ) → members i ≡ false → wound members t i ≡ t i
  unfolding wound
  spared_same i e = rw e

  -- whoever was wounded holds nothing
  pub wounded_empty : (i : ℕ) → members i ≡ true → (wound members t i).hand ≡ []
  unfolding wound
  wounded_empty i e = rw e

  -- whoever was wounded is not at work
  pub wounded_rests : (i : ℕ) → members i ≡ true → works (wound members t i).phase ≡ false
  unfolding wound
  wounded_rests i e = rw e

-- wounding attempts at work keeps the invariants
pub wounding_keeps : {V : Type 0} {t : Stations V} {next records : ℕ} → Invariant t next records → (members : ℕ → Bool)
    → ((i : ℕ) → members i ≡ true → works (t i).phase ≡ true) → Invariant (wound members t) next records
unfolding wound
wounding_keeps {V} {t} v members at_work = adding_nothing_keeps (wound members t) v (λ i. go i (members i) refl)
  where
    go : (i : ℕ) (b : Bool) → members i ≡ b → AddsNothing (t i) (cond b (wounded_station (t i)) (t i))
    go i true e = emptied_adds_nothing (t i) (wounded_station (t i)) refl refl
        (λ _. (works_not_idle (t i).phase (at_work i e), refl))
    go i false e = unchanged_adds_nothing (t i) (v.empty_handed i)

-- Whom a take wounds.

module _ {V : Type 0} {t : Stations V} {next records : ℕ} (v : Invariant t next records) (k r : ℕ) (m : Mode) where
  -- who must yield is at work
  pub yielding_at_work : (i : ℕ) → must_yield t k r m i ≡ true → works (t i).phase ≡ true
  yielding_at_work i q = grind (arith, holder_works v i r)

  -- a running taker with room for the record: after the wounding, whoever still holds it and conflicts is older; the wait added then
  -- keeps the invariants
  pub take_keeps : (t k).phase ≡ running → r < records → hold_on r (t k).hand ≡ None → length (t k).hand < 16
      → Invariant (add_wait (wound (wounded_by_take t k r m) t) k r m) next records
  unfolding wounded_by_take
  take_keeps was inside lacks free =
      wait_keeps (wounding_keeps v members (members_at_work v (must_yield t k r m) yielding_at_work)) k r m (rw taker_same was)
      inside (rw taker_same lacks) (rw taker_same free) conflicting_older
    where
      members : ℕ → Bool
      members = widen t (must_yield t k r m)

      after_wounding : Stations V
      after_wounding = wound members t

      taker_same : after_wounding k ≡ t k
      taker_same = spared_same members t k (taker_spared t k r m)

      conflicting_older : (j : ℕ) (h : Hold V) → hold_on r (after_wounding j).hand ≡ Some h → conflict m (hold_mode h) ≡ true
          → (after_wounding j).stamp < (after_wounding k).stamp
      conflicting_older j h f c = grind (
        arith,
        nat_tests,
        taker_same,
        wounded_empty members t j,
        spared_same members t j,
        widened_has_first t (must_yield t k r m) j,
        v.apart j k,
        holder_not_idle v j r h,
      )
