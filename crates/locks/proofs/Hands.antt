-- A hand of the code beside the hand of the rules.
use Rattle.std.proofs.Common.{◌≡◌, ℕ, zero, suc, ◌<◌, Bool, true, false, cond, not, ◌&&◌, eqb, List, length, get_or, is_some, MatchOption, Some, None, Option, sym, refl, ap, ◌∙◌, ⊎_elim, arith}
use Rattle.std.proofs.lemmas.Bool.{false≢true, cases_lt, eqb-true, eqb-false}
use Rattle.std.specs.Option.{option_map}
use Rattle.rules.specs.declared.Mode.{Mode}
use Rattle.rules.specs.declared.Mode.TheVariants.{Shared, Exclusive}
use Rattle.rules.specs.Tables as rules
use Rattle.rules.specs.Tables.{hold_on, draft_in, conflict, conflicts, owned_conflicts}
use Rattle.rules.specs.Searches.{any_below}
use Rattle.rules.specs.Operations.{draft_for, exclusive_in_common}
use Rattle.rules.specs.Calls.{owns, only_shared}
use Rattle.locks.specs.declared.station.Hold.{Hold}
use Rattle.locks.specs.declared.station.Station.{Station}
use Rattle.locks.specs.Hand.{no_hold}
use Rattle.locks.specs.View.{hold_with, hand_with, place_on, hold_in, held_by}
use Rattle.locks.proofs.Turns.{or_both}

-- of the first n places, this is the last with a hold on record r, or there is none
abbrev pub IsLastPlace : ℕ → List Hold → ℕ → Option ℕ → Type 0
IsLastPlace r hand n o = MatchOption o ((j : ℕ) → j < n → (get_or hand j no_hold).at ≡ r → ⊥)
    (λ k. (k < n) × ((get_or hand k no_hold).at ≡ r) × ((j : ℕ) → k < j → j < n → (get_or hand j no_hold).at ≡ r → ⊥))

-- it is the place that the rules find
pub last_place : (r : ℕ) (hand : List Hold) (n : ℕ) (o : Option ℕ) → IsLastPlace r hand n o → o ≡ place_on r hand n
last_place r hand zero None h = refl
last_place r hand zero (Some k) h = absurd (let l = h.0 in let no : ⊥ = omega (arith, l) in no)
last_place r hand (suc n) o h = go (eqb (get_or hand n no_hold).at r) refl o h (last_place r hand n)
  where
    go : (b : Bool) → eqb (get_or hand n no_hold).at r ≡ b → (o : Option ℕ) → IsLastPlace r hand (suc n) o
        → ((q : Option ℕ) → IsLastPlace r hand n q → q ≡ place_on r hand n) → o ≡ cond b (Some n) (place_on r hand n)
    go true e None h ih = absurd (h n (omega arith) (eqb-true _ _ e))
    go true e (Some k) h ih = ⊎_elim (λ l. absurd (h.2 n l (omega arith) (eqb-true _ _ e))) (λ l. let l' = h.0 in ap Some (omega (arith, l, l'))) (cases_lt k n)
    go false e None h ih = ih None (λ j l. h j (omega arith))
    go false e (Some k) h ih = ⊎_elim
        (λ l. ih (Some k) (l, h.1, λ j a b. h.2 j a (omega arith)))
        (λ l. let l' = h.0 in let same : k ≡ n = omega (arith, l, l') in absurd (eqb-false _ _ e (ap (λ j. (get_or hand j no_hold).at) (sym same) ∙ h.1)))
        (cases_lt k n)

-- the hold on a record is the one at its place
pub hold_at_place : {V : Type 0} (drafts : ℕ → V) (r : ℕ) (hand : List Hold) (n : ℕ) → hold_on r (hand_with drafts hand n) ≡ option_map (λ k. hold_with (drafts k) (get_or hand k no_hold)) (place_on r hand n)
hold_at_place drafts r hand zero = refl
hold_at_place drafts r hand (suc n) = go (eqb (get_or hand n no_hold).at r) (hold_at_place drafts r hand n)
  where
    go : (b : Bool) → hold_on r (hand_with drafts hand n) ≡ option_map (λ k. hold_with (drafts k) (get_or hand k no_hold)) (place_on r hand n)
        → cond b (Some (hold_with (drafts n) (get_or hand n no_hold))) (hold_on r (hand_with drafts hand n)) ≡ option_map (λ k. hold_with (drafts k) (get_or hand k no_hold)) (cond b (Some n) (place_on r hand n))
    go true hyp = refl
    go false hyp = hyp

-- the mode of a hold is that of the code
pub mode_kept : {V : Type 0} (m : Mode) (v : V) → rules.mode_with (draft_for m v) ≡ m
mode_kept Shared v = refl
mode_kept Exclusive v = refl

-- an exclusive hold has a draft, a shared one none
pub exclusive_kept : {V : Type 0} (m : Mode) (v : V) → is_some (draft_for m v) ≡ conflict Shared m
exclusive_kept Shared v = refl
exclusive_kept Exclusive v = refl

-- a mapped answer is there where the answer is
pub mapped_some : {A B : Type 0} (f : A → B) (o : Option A) → is_some (option_map f o) ≡ is_some o
mapped_some f None = refl
mapped_some f (Some x) = refl

-- the mode at a place, and whether it conflicts
abbrev pub conflicts_at : Mode → List Hold → Option ℕ → Bool
conflicts_at m hand None = false
conflicts_at m hand (Some k) = conflict m (get_or hand k no_hold).mode

-- the mode and stage at a place, and whether an owned hold there conflicts
abbrev pub owned_conflicts_at : Mode → List Hold → Option ℕ → Bool
owned_conflicts_at m hand None = false
owned_conflicts_at m hand (Some k) = rules.is_owned (get_or hand k no_hold).stage && conflict m (get_or hand k no_hold).mode

-- whether the hold at a place is owned
abbrev pub owns_at : List Hold → Option ℕ → Bool
owns_at hand None = false
owns_at hand (Some k) = rules.is_owned (get_or hand k no_hold).stage

-- whether the hold at a place is shared
abbrev pub shared_at : List Hold → Option ℕ → Bool
shared_at hand None = false
shared_at hand (Some k) = not (conflict Shared (get_or hand k no_hold).mode)

-- the draft of what stands at a place
abbrev pub draft_at : {V : Type 0} → (ℕ → V) → List Hold → Option ℕ → Option V
draft_at drafts hand None = None
draft_at drafts hand (Some k) = draft_for (get_or hand k no_hold).mode (drafts k)

-- what is asked of the hold on a record is told by what stands at its place
module _ {V : Type 0} (drafts : ℕ → V) (r : ℕ) (hand : List Hold) (n : ℕ) where
  -- the hold that stands at a place
  abbrev hold_there : Option ℕ → Option (rules.Hold V)
  hold_there = option_map (λ k. hold_with (drafts k) (get_or hand k no_hold))

  -- there is a hold on a record where it has a place
  pub holds_at_place : is_some (hold_on r (hand_with drafts hand n)) ≡ is_some (place_on r hand n)
  holds_at_place = ap is_some (hold_at_place drafts r hand n) ∙ mapped_some _ (place_on r hand n)

  -- whether the hold on a record conflicts is told by the mode at its place
  pub conflicts_at_place : (m : Mode) → conflicts_at m hand (place_on r hand n) ≡ conflicts m (hold_on r (hand_with drafts hand n))
  conflicts_at_place m = by_place (place_on r hand n) ∙ ap (conflicts m) (sym (hold_at_place drafts r hand n))
    where
      by_place : (o : Option ℕ) → conflicts_at m hand o ≡ conflicts m (hold_there o)
      by_place None = refl
      by_place (Some k) = ap (conflict m) (sym (mode_kept (get_or hand k no_hold).mode (drafts k)))

  -- whether an owned hold on a record conflicts is told by what stands at its place
  pub owned_conflicts_at_place : (m : Mode) → owned_conflicts_at m hand (place_on r hand n) ≡ owned_conflicts m (hold_on r (hand_with drafts hand n))
  owned_conflicts_at_place m = by_place (place_on r hand n) ∙ ap (owned_conflicts m) (sym (hold_at_place drafts r hand n))
    where
      by_place : (o : Option ℕ) → owned_conflicts_at m hand o ≡ owned_conflicts m (hold_there o)
      by_place None = refl
      by_place (Some k) = ap (λ x. rules.is_owned (get_or hand k no_hold).stage && conflict m x) (sym (mode_kept (get_or hand k no_hold).mode (drafts k)))

  -- whether the hold on a record is owned is told by the stage at its place
  pub owns_at_place : owns (hold_on r (hand_with drafts hand n)) ≡ owns_at hand (place_on r hand n)
  owns_at_place = ap owns (hold_at_place drafts r hand n) ∙ by_place (place_on r hand n)
    where
      by_place : (o : Option ℕ) → owns (hold_there o) ≡ owns_at hand o
      by_place None = refl
      by_place (Some k) = refl

  -- whether the hold on a record is shared is told by the mode at its place
  pub shared_at_place : only_shared (hold_on r (hand_with drafts hand n)) ≡ shared_at hand (place_on r hand n)
  shared_at_place = ap only_shared (hold_at_place drafts r hand n) ∙ by_place (place_on r hand n)
    where
      by_place : (o : Option ℕ) → only_shared (hold_there o) ≡ shared_at hand o
      by_place None = refl
      by_place (Some k) = ap not (exclusive_kept (get_or hand k no_hold).mode (drafts k))

  -- the draft of the hold on a record is that at its place
  pub draft_at_place : draft_in (hold_on r (hand_with drafts hand n)) ≡ draft_at drafts hand (place_on r hand n)
  draft_at_place = ap draft_in (hold_at_place drafts r hand n) ∙ by_place (place_on r hand n)
    where
      by_place : (o : Option ℕ) → draft_in (hold_there o) ≡ draft_at drafts hand o
      by_place None = refl
      by_place (Some k) = refl

-- the hold of a station on a record, as the rules have it
pub hold_seen : (r : ℕ) (s : Station) → option_map (hold_with (tt {0})) (hold_in r s) ≡ hold_on r (held_by s)
hold_seen r s = go (place_on r s.hand.items (length s.hand.items)) ∙ sym (hold_at_place (λ k. tt {0}) r s.hand.items (length s.hand.items))
  where
    go : (o : Option ℕ) → option_map (hold_with (tt {0})) (option_map (λ k. get_or s.hand.items k no_hold) o) ≡ option_map (λ k. hold_with (tt {0}) (get_or s.hand.items k no_hold)) o
    go None = refl
    go (Some k) = refl

-- there is a hold on a record where the rules have one
pub holds_seen : (r : ℕ) (s : Station) → is_some (hold_in r s) ≡ is_some (hold_on r (held_by s))
holds_seen r s = sym (mapped_some (hold_with (tt {0})) (hold_in r s)) ∙ ap is_some (hold_seen r s)

-- a hold that is found conflicts where the rules say so
pub conflicts_seen : (m : Mode) (r : ℕ) (s : Station) (o : Option Hold) (b : Bool) → o ≡ hold_in r s
    → MatchOption o (b ≡ false) (λ h. b ≡ conflict m h.mode) → b ≡ conflicts m (hold_on r (held_by s))
conflicts_seen m r s o b e h = go o h ∙ ap (λ q. conflicts m (option_map (hold_with (tt {0})) q)) e ∙ ap (conflicts m) (hold_seen r s)
  where
    go : (q : Option Hold) → MatchOption q (b ≡ false) (λ h. b ≡ conflict m h.mode) → b ≡ conflicts m (option_map (hold_with (tt {0})) q)
    go None h = h
    go (Some x) h = h ∙ ap (conflict m) (sym (mode_kept x.mode (tt {0})))

-- an owned hold that is found conflicts where the rules say so
pub owned_conflicts_seen : (m : Mode) (r : ℕ) (s : Station) (o : Option Hold) (b : Bool) → o ≡ hold_in r s
    → MatchOption o (b ≡ false) (λ h. b ≡ (rules.is_owned h.stage && conflict m h.mode)) → b ≡ owned_conflicts m (hold_on r (held_by s))
owned_conflicts_seen m r s o b e h = go o h ∙ ap (λ q. owned_conflicts m (option_map (hold_with (tt {0})) q)) e ∙ ap (owned_conflicts m) (hold_seen r s)
  where
    go : (q : Option Hold) → MatchOption q (b ≡ false) (λ h. b ≡ (rules.is_owned h.stage && conflict m h.mode)) → b ≡ owned_conflicts m (option_map (hold_with (tt {0})) q)
    go None h = h
    go (Some x) h = h ∙ ap (λ n. rules.is_owned x.stage && conflict m n) (sym (mode_kept x.mode (tt {0})))

-- the place of an exclusive hold is its draft, where each draft is its own place
pub exclusive_seen : (r : ℕ) (hand : List Hold) (n : ℕ) (o q : Option ℕ) → o ≡ place_on r hand n
    → MatchOption o (q ≡ None) (λ k. q ≡ cond (conflict Shared (get_or hand k no_hold).mode) (Some k) None) → q ≡ draft_in (hold_on r (hand_with (λ k. k) hand n))
exclusive_seen r hand n o q e h = go o h ∙ ap (draft_at (λ k. k) hand) e ∙ sym (draft_at_place (λ k. k) r hand n)
  where
    by_mode : (m : Mode) (k : ℕ) → cond (conflict Shared m) (Some k) None ≡ draft_for m k
    by_mode Shared k = refl
    by_mode Exclusive k = refl

    go : (o : Option ℕ) → MatchOption o (q ≡ None) (λ k. q ≡ cond (conflict Shared (get_or hand k no_hold).mode) (Some k) None) → q ≡ draft_at (λ k. k) hand o
    go None h = h
    go (Some k) h = h ∙ by_mode (get_or hand k no_hold).mode k

-- a record in common is one of the holds by place
pub common_by_place : {V : Type 0} (drafts : ℕ → V) (hand : List Hold) (other : List (rules.Hold V)) (n : ℕ)
    → exclusive_in_common (hand_with drafts hand n) other ≡ any_below n (λ k. conflict Shared (get_or hand k no_hold).mode && is_some (hold_on (get_or hand k no_hold).at other))
common_by_place drafts hand other zero = refl
common_by_place drafts hand other (suc n) =
    or_both (ap (λ b. b && is_some (hold_on (get_or hand n no_hold).at other)) (exclusive_kept (get_or hand n no_hold).mode (drafts n))) (common_by_place drafts hand other n)

-- an exclusive hold has its draft
pub draft_exclusive : {V : Type 0} (m : Mode) (v : V) → true ≡ conflict Shared m → Some v ≡ draft_for m v
draft_exclusive Shared v e = absurd (false≢true (sym e))
draft_exclusive Exclusive v e = refl

-- a draft by another name is that draft renamed
pub draft_renamed : {V W : Type 0} (f : V → W) (m : Mode) (v : V) → draft_for m (f v) ≡ option_map f (draft_for m v)
draft_renamed f Shared v = refl
draft_renamed f Exclusive v = refl

-- the draft of a record's hold is that of the place, where each draft is its own place
pub draft_by_place : {V : Type 0} (drafts : ℕ → V) (r : ℕ) (hand : List Hold) (n : ℕ)
    → draft_in (hold_on r (hand_with drafts hand n)) ≡ option_map drafts (draft_in (hold_on r (hand_with (λ k. k) hand n)))
draft_by_place drafts r hand n = draft_at_place drafts r hand n ∙ go (place_on r hand n) ∙ ap (option_map drafts) (sym (draft_at_place (λ k. k) r hand n))
  where
    go : (o : Option ℕ) → draft_at drafts hand o ≡ option_map drafts (draft_at (λ k. k) hand o)
    go None = refl
    go (Some k) = draft_renamed drafts (get_or hand k no_hold).mode k

-- a hand has as many holds as are held
pub hand_length : {V : Type 0} (drafts : ℕ → V) (hand : List Hold) (n : ℕ) → length (hand_with drafts hand n) ≡ n
hand_length drafts hand zero = refl
hand_length drafts hand (suc n) = ap suc (hand_length drafts hand n)
