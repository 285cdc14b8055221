-- Whom a wound spares: nobody older than all first members joins, so a take spares the taker.
use Rattle.std.proofs.Common.{◌≡◌, ℕ, suc, ◌<◌, ◌≤◌, Bool, true, false, leb, le_trans, le_of_lt, arith}
use Rattle.std.proofs.lemmas.Bool.{and_parts, ltb-true, leb-true, le-leb, false_from_ne_true}
use Rattle.rules.specs.declared.Mode.{Mode}
use Rattle.rules.specs.Tables.{Stations, older, conflicts, hold_on}
use Rattle.rules.specs.Operations.{widen, must_yield}
use Rattle.rules.proofs.Widening.{widened_least}

-- if the first members have stamps of at least s, every member has
pub members_no_older : {V : Type 0} (t : Stations V) (first : ℕ → Bool) (s : ℕ) → ((i : ℕ) → first i ≡ true → s ≤ (t i).stamp)
    → (i : ℕ) → widen t first i ≡ true → s ≤ (t i).stamp
members_no_older t first s base i e =
    leb-true s (t i).stamp
    (widened_least t first (λ i. leb s (t i).stamp) (λ i q. le-leb s (t i).stamp (base i q))
    (λ j i _ _ q f. le-leb s (t i).stamp (le_trans (leb-true s (t j).stamp q) (le_of_lt f.3))) i e)

module _ {V : Type 0} (t : Stations V) (k r : ℕ) (m : Mode) where
  -- whom a take wounds is younger than the taker
  pub taker_older : (i : ℕ) → widen t (must_yield t k r m) i ≡ true → (t k).stamp < (t i).stamp
  taker_older = members_no_older t (must_yield t k r m) (suc (t k).stamp)
      (λ i q. ltb-true (t k).stamp (t i).stamp (and_parts (older t k i) (conflicts m (hold_on r (t i).hand)) q).0)

  -- a take does not wound the taker
  pub taker_spared : widen t (must_yield t k r m) k ≡ false
  taker_spared = false_from_ne_true (widen t (must_yield t k r m) k) (λ q. omega (arith, taker_older k q))
