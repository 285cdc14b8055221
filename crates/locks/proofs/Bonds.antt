-- Bonds, place by place.
use Rattle.std.proofs.Common.{◌≡◌, ℕ, zero, suc, ◌<◌, ◌≤◌, false, cond, List, length, get_or, sym, ap, ◌∙◌, refl, ⊎_elim, arith}
use Rattle.std.proofs.lemmas.Bool.{false≢true, cases_eq}
use Rattle.std.proofs.lemmas.List.{get_or_past}
use Rattle.rules.specs.Searches.{any_below, count_below}
use Rattle.rules.specs.Tables.{Stations}
use Rattle.rules.specs.Operations.{binds, bonds, bonds_in, behind_bond, behind_bond_in}
use Rattle.rules.proofs.Naming.{naming_is_free}
use Rattle.locks.specs.declared.station.Hold.{Hold}
use Rattle.locks.specs.declared.station.Station.{Station}
use Rattle.locks.specs.Hand.{no_hold}
use Rattle.locks.specs.View.{bare, no_station, hand_with, hold_with, station_with}
use Rattle.locks.specs.Asked.{binds_on}
use Rattle.locks.proofs.Turns.{or_both}
use Rattle.locks.proofs.Hands.{mode_kept}

-- past the sixteen stations there are no bonds
pub no_bonds_past : (xs : List Station) (i : ℕ) → length xs ≤ i → bonds (bare xs) i ≡ 0
unfolding bonds
no_bonds_past xs i h = ap (λ x. bonds_in (bare xs) i (station_with (λ k. tt {0}) x).hand) (get_or_past xs i no_station h)

-- a hold binds by its record and mode
pub binds_by_mode : (xs : List Station) (i : ℕ) (h : Hold) (j : ℕ) → binds (bare xs) i (hold_with (tt {0}) h) j ≡ binds_on xs i h.at h.mode j
binds_by_mode xs i h j = ap (λ m. binds_on xs i h.at m j) (mode_kept h.mode (tt {0}))

module _ (xs : List Station) (i : ℕ) (hand : List Hold) where
  -- the bonds of the first n places, counted by place
  pub bonds_by_place : (n : ℕ) → bonds_in (bare xs) i (hand_with (λ k. tt {0}) hand n)
      ≡ count_below n (λ k. any_below 16 (binds_on xs i (get_or hand k no_hold).at (get_or hand k no_hold).mode))
  bonds_by_place zero = refl
  bonds_by_place (suc n) =
      ap (λ m. cond (any_below 16 (binds_on xs i (get_or hand n no_hold).at m)) (suc (bonds_in (bare xs) i (hand_with (λ k. tt {0}) hand n))) (bonds_in (bare xs) i (hand_with (λ k. tt {0}) hand n)))
      (mode_kept (get_or hand n no_hold).mode (tt {0}))
      ∙ ap (λ m. cond (any_below 16 (binds_on xs i (get_or hand n no_hold).at (get_or hand n no_hold).mode)) (suc m) m) (bonds_by_place n)

  -- who is behind a bond of the first n places, by place
  pub behind_by_place : (j n : ℕ) → behind_bond_in (bare xs) i (hand_with (λ k. tt {0}) hand n) j
      ≡ any_below n (λ k. binds_on xs i (get_or hand k no_hold).at (get_or hand k no_hold).mode j)
  behind_by_place j zero = refl
  behind_by_place j (suc n) = or_both (binds_by_mode xs i (get_or hand n no_hold) j) (behind_by_place j n)

-- where nobody is behind a bond there is none
pub no_bonds : {V : Type 0} (t : Stations V) (i : ℕ) → ((j : ℕ) → j < 16 → behind_bond t i j ≡ false) → bonds t i ≡ 0
no_bonds {V} t i none =
    ⊎_elim (λ e. e)
    (λ (ne : bonds t i ≡ 0 → ⊥). let x = (naming_is_free V (Unit {0})).somebody_to_name t i (omega arith) in absurd (false≢true (sym (none x.0 x.1) ∙ x.2)))
    (cases_eq (bonds t i) 0)
