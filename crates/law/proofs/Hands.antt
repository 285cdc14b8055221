-- Hands: the hold on a record, a hold adjusted, drafts and bonds.
use Rattle.std.proofs.Common.{◌≡◌, ℕ, suc, ◌<◌, Bool, true, false, cond, eqb, List, [], ◌∷◌, length, Some, None, Option, refl, arith}
use Rattle.std.proofs.lemmas.Bool.{cases_eq, lt-ltb}
use Rattle.std.proofs.lemmas.Bool.Decides.{nat_tests}
use Rattle.rules.specs.declared.Mode.{Mode}
use Rattle.rules.specs.declared.Mode.TheVariants.{Exclusive}
use Rattle.rules.specs.Searches.{any_below}
use Rattle.rules.specs.Tables.{Hold, Stations, conflict, mode_with, hold_mode, hold_on, draft_in, conflicts}
use Rattle.rules.specs.Operations.{older_draft, binds, bonds_in, bonds, adjust}
use Rattle.rules.proofs.Searches.{any_below_none, any_below_false}

-- the hold found on a record is on that record
pub hold_on_record : {V : Type 0} (r : ℕ) (hs : List (Hold V)) (h : Hold V) → hold_on r hs ≡ Some h → h.record_number ≡ r
hold_on_record r [] h e = cc
hold_on_record r (g ∷ hs) h e = grind (arith, nat_tests, hold_on_record r hs h)

-- a hold adjusted by a change f that keeps its record
module _ {V : Type 0} (f : Hold V → Hold V) (keeps : (h : Hold V) → (f h).record_number ≡ h.record_number) (q : ℕ) where
  -- the hold on the adjusted record is the old one, changed
  pub hold_on_adjusted : (hs : List (Hold V)) (h : Hold V) → hold_on q hs ≡ Some h → hold_on q (adjust q f hs) ≡ Some (f h)
  hold_on_adjusted [] h e = cc
  hold_on_adjusted (g ∷ hs) h e = grind (arith, keeps, hold_on_adjusted hs h)

  -- the holds on the other records are as they were
  pub hold_on_others : (r : ℕ) (hs : List (Hold V)) → (r ≡ q → ⊥) → hold_on r (adjust q f hs) ≡ hold_on r hs
  hold_on_others r [] ne = refl
  hold_on_others r (g ∷ hs) ne = grind (arith, nat_tests, keeps, hold_on_others r hs ne)

  -- what is not held is not held after
  pub none_adjusted : (r : ℕ) (hs : List (Hold V)) → hold_on r hs ≡ None → hold_on r (adjust q f hs) ≡ None
  none_adjusted r [] e = refl
  none_adjusted r (g ∷ hs) e = grind (arith, keeps, none_adjusted r hs)

  -- there are as many holds as before
  pub length_adjusted : (hs : List (Hold V)) → length (adjust q f hs) ≡ length hs
  length_adjusted [] = refl
  length_adjusted (g ∷ hs) = grind (arith, length_adjusted hs)

  -- an aspect that the change leaves is everywhere as it was
  pub aspect_adjusted : {X : Type 0} (aspect : Option (Hold V) → X) (hs : List (Hold V)) (h : Hold V) → hold_on q hs ≡ Some h
      → aspect (Some (f h)) ≡ aspect (Some h) → (r : ℕ) → aspect (hold_on r (adjust q f hs)) ≡ aspect (hold_on r hs)
  aspect_adjusted aspect hs h e same r = grind (arith, cases_eq r q, hold_on_adjusted hs h, hold_on_others r hs)

-- with no bonds nobody older conflicts with a hold
pub no_bonds_no_conflict : {V : Type 0} (t : Stations V) (i : ℕ) → bonds t i ≡ 0 → (r : ℕ) (h : Hold V)
    → hold_on r (t i).hand ≡ Some h → (j : ℕ) → j < 16 → (t j).stamp < (t i).stamp
    → conflicts (hold_mode h) (hold_on r (t j).hand) ≡ false
unfolding bonds
no_bonds_no_conflict {V} t i none r h e j l o = by (all (t i).hand none e)
  where
    all : (hs : List (Hold V)) → bonds_in t i hs ≡ 0 → hold_on r hs ≡ Some h → any_below 16 (binds t i h) ≡ false
    all [] z f = cc
    all (g ∷ hs) z f = go (any_below 16 (binds t i g)) refl (eqb g.record_number r) z f (all hs)
      where
        go : (b : Bool) → any_below 16 (binds t i g) ≡ b → (c : Bool) → cond b (suc (bonds_in t i hs)) (bonds_in t i hs) ≡ 0
            → cond c (Some g) (hold_on r hs) ≡ Some h
            → (bonds_in t i hs ≡ 0 → hold_on r hs ≡ Some h → any_below 16 (binds t i h) ≡ false)
            → any_below 16 (binds t i h) ≡ false
        go true u c z f ih = absurd (omega arith)
        go false u true z f ih = let gh : g ≡ h = cc in rw (← gh) u
        go false u false z f ih = ih z f

    by : any_below 16 (binds t i h) ≡ false → conflicts (hold_mode h) (hold_on r (t j).hand) ≡ false
    by s =
        let b : binds t i h j ≡ false = any_below_none 16 (binds t i h) s j l in
        rw (lt-ltb (t j).stamp (t i).stamp o, hold_on_record r (t i).hand h e) at b

-- if nobody binds, there are no bonds
pub nobody_binds_no_bonds : {V : Type 0} (t : Stations V) (i : ℕ) → ((h : Hold V) (j : ℕ) → binds t i h j ≡ true → ⊥)
    → bonds t i ≡ 0
unfolding bonds
nobody_binds_no_bonds {V} t i free = all (t i).hand
  where
    all : (hs : List (Hold V)) → bonds_in t i hs ≡ 0
    all [] = refl
    all (h ∷ hs) = rw (any_below_false 16 (binds t i h) (λ j _ q. free h j q)) (all hs)

-- a conflict is with a hold
pub conflict_parts : {V : Type 0} (m : Mode) (x : Option (Hold V)) → conflicts m x ≡ true
    → (h : Hold V) × (x ≡ Some h) × (conflict m (hold_mode h) ≡ true)
conflict_parts m x q = grind arith

-- an exclusive hold has a draft
pub exclusive_has_draft : {V : Type 0} (h : Hold V) → hold_mode h ≡ Exclusive → (d : V) × (h.draft ≡ Some d)
exclusive_has_draft {V} h e = go h.draft e
  where
    go : (g : Option V) → mode_with g ≡ Exclusive → (d : V) × (g ≡ Some d)
    go None e = cc
    go (Some v) e = (v, refl)

-- whoever has a draft of a record holds it exclusively
pub draft_is_exclusive : {V : Type 0} (o : Option (Hold V)) (d : V) → draft_in o ≡ Some d
    → (h : Hold V) × (o ≡ Some h) × (hold_mode h ≡ Exclusive)
draft_is_exclusive o d e = grind arith

-- the draft that station j has of record r, as it counts for station i
module _ {V : Type 0} (t : Stations V) (i r j : ℕ) where
  -- a station without a draft counts for nothing
  pub without_draft_counts_not : draft_in (hold_on r (t j).hand) ≡ None → older_draft t i r j ≡ None
  without_draft_counts_not e = grind arith

  -- a draft that counts is that of an older station
  pub older_draft_parts : (d : V) → older_draft t i r j ≡ Some d
      → ((t j).stamp < (t i).stamp) × (draft_in (hold_on r (t j).hand) ≡ Some d)
  older_draft_parts d e = grind (arith, nat_tests)

  -- if an older station can have no draft, none counts
  pub no_older_draft : ((d : V) → (t j).stamp < (t i).stamp → draft_in (hold_on r (t j).hand) ≡ Some d → ⊥)
      → older_draft t i r j ≡ None
  no_older_draft no_one = grind (arith, older_draft_parts)
