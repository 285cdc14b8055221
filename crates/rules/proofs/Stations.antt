-- The stations with one put: what is there, and what is at the others.
use Rattle.std.proofs.Common.{◌≡◌, ℕ, eqb}
use Rattle.std.proofs.lemmas.Bool.{cond_both, eqb-true, eqb-false, ne_eqb}
use Rattle.rules.specs.Tables.{Station, Stations, put}
use Rattle.rules.proofs.Searches.{eqb_refl}

-- what holds of the station put, and of each other one as it was, holds of every station
pub put_cases : {V : Type 0} (P : Station V → Type 0) (t : Stations V) (i : ℕ) (x : Station V) (j : ℕ) → (j ≡ i → P x)
    → ((j ≡ i → ⊥) → P (t j)) → P (put t i x j)
put_cases P t i x j same other = cond_both (eqb j i) x (t j) P (λ e. same (eqb-true j i e)) (λ e. other (eqb-false j i e))

-- at its number the station put is found
pub put_same : {V : Type 0} (t : Stations V) (i : ℕ) (x : Station V) → put t i x i ≡ x
put_same t i x = rw eqb_refl

-- at another number the station is as it was
pub put_other : {V : Type 0} (t : Stations V) (i : ℕ) (x : Station V) (j : ℕ) → (j ≡ i → ⊥) → put t i x j ≡ t j
put_other t i x j ne = rw (ne_eqb j i ne)
