-- The rounds of widening.
use Rattle.std.proofs.Common.{◌≡◌, ℕ, zero, suc, ◌-◌, ◌≤◌, Bool, false, not, ◌||◌, ltb, List, length, Some, None, Option, sym, refl, ap, ◌∙◌, arith}
use Rattle.std.proofs.lemmas.Bool.{ne_eqb, le-ltb, and_parts}
use Rattle.std.proofs.lemmas.List.{get_or_past}
use Rattle.rules.specs.Searches.{first_below, count_below, until}
use Rattle.rules.specs.Tables.{Stations, older}
use Rattle.rules.specs.Operations.{joins, with_member, widen}
use Rattle.rules.proofs.Searches.{eqb_refl, first_below_passes, count_at_most, count_one_fewer}
use Rattle.locks.specs.declared.station.Station.{Station}
use Rattle.locks.specs.View.{bare, no_station, stamp_of}

-- nobody past the sixteen stations is younger
pub not_younger_past : (xs : List Station) (i j : ℕ) → length xs ≤ j → older (bare xs) i j ≡ false
not_younger_past xs i j h = ap (λ (x : Station). ltb (bare xs i).stamp (stamp_of x.phase)) (get_or_past xs j no_station h) ∙ le-ltb (bare xs i).stamp 0 (omega arith)

-- how many stations are no members
abbrev pub outside : (ℕ → Bool) → ℕ
outside members = count_below 16 (λ j. not (members j))

-- the set widened by at most n stations
pub widen_within : {V : Type 0} → Stations V → ℕ → (ℕ → Bool) → ℕ → Bool
widen_within t n members = until n (λ ms. first_below 16 (joins t ms)) with_member members

module _ {V : Type 0} (t : Stations V) where
  -- the first that joins is taken, with one round fewer left
  pub widen_joined : (m n k : ℕ) (ms : ℕ → Bool) → m ≡ suc n → Some k ≡ first_below 16 (joins t ms) → widen_within t m ms ≡ widen_within t n (with_member k ms)
  unfolding widen_within
  widen_joined m n k ms e f = ap (λ x. until x (λ ms. first_below 16 (joins t ms)) with_member ms) e
      ∙ ap (λ (o : Option ℕ). elim o [ None ↦ ms | Some k ↦ until n (λ ms. first_below 16 (joins t ms)) with_member (with_member k ms) ]) (sym f)

  -- where nobody joins, the set stays
  pub widen_closed : (m n : ℕ) (ms : ℕ → Bool) → m ≡ suc n → None ≡ first_below 16 (joins t ms) → widen_within t m ms ≡ ms
  unfolding widen_within
  widen_closed m n ms e f = ap (λ x. until x (λ ms. first_below 16 (joins t ms)) with_member ms) e
      ∙ ap (λ (o : Option ℕ). elim o [ None ↦ ms | Some k ↦ until n (λ ms. first_below 16 (joins t ms)) with_member (with_member k ms) ]) (sym f)

  -- with no round left, the set stays
  pub widen_over : (m : ℕ) (ms : ℕ → Bool) → m ≡ 0 → widen_within t m ms ≡ ms
  unfolding widen_within
  widen_over m ms e = ap (λ x. until x (λ ms. first_below 16 (joins t ms)) with_member ms) e

  -- sixteen rounds are the rules' widening
  pub widen_all : (ms : ℕ → Bool) → widen_within t 16 ms ≡ widen t ms
  unfolding widen_within widen
  widen_all ms = refl

  -- the members are on the way from the first ones to the rules' widening: with these rounds, which are enough, they come there
  pub record Widens (first members : ℕ → Bool) : Type 0 where
    pub rounds : ℕ
    pub enough : outside members ≤ rounds
    pub same : widen_within t rounds members ≡ widen t first

  -- the first ones are
  pub widens_from : (first : ℕ → Bool) → Widens first first
  widens_from first = record { rounds = 16; enough = count_at_most 16 (λ j. not (first j)); same = widen_all first }

  module _ (members : ℕ → Bool) (k : ℕ) (joined : Some k ≡ first_below 16 (joins t members)) where
    -- one who joins was no member
    pub fewer_outside : suc (outside (with_member k members)) ≡ outside members
    fewer_outside =
        let found = first_below_passes 16 (joins t members) k (sym joined) in
        count_one_fewer 16 (λ j. not (members j)) (λ j. not (with_member k members j)) k found.0 (and_parts _ _ found.1).0
        (ap (λ b. not (b || members k)) (eqb_refl k)) (λ j ne. ap (λ b. not (b || members j)) (ne_eqb j k ne))

    -- with one who joins, the members are still on the way
    pub widens_joined : (first : ℕ → Bool) → Widens first members → Widens first (with_member k members)
    widens_joined first w =
        let left : w.rounds ≡ suc (w.rounds - 1) = omega (arith, fewer_outside, w.enough) in
        record {
          rounds = w.rounds - 1;
          enough = omega (arith, fewer_outside, w.enough);
          same = sym (widen_joined w.rounds (w.rounds - 1) k members left joined) ∙ w.same;
        }

  -- where nobody joins, the members are the rules' widening
  pub widens_closed : (first members : ℕ → Bool) → Widens first members → None ≡ first_below 16 (joins t members) → members ≡ widen t first
  widens_closed first members w none = by w.rounds refl ∙ w.same
    where
      by : (n : ℕ) → w.rounds ≡ n → members ≡ widen_within t w.rounds members
      by zero e = sym (widen_over w.rounds members e)
      by (suc n) e = sym (widen_closed w.rounds n members e none)
