-- The loops of the check: one more check passed, or the first fault.
use Rattle.std.proofs.Common.{◌≡◌, ℕ, zero, suc, ◌+◌, ◌-◌, ◌<◌, ◌≤◌, Ok, Err, sym, refl, ap, ◌∙◌, ⊎_elim, arith}
use Rattle.std.proofs.lemmas.Bool.{cases_eq}
use Rattle.image.specs.declared.fault.Fault.{Fault}
use Rattle.image.specs.Faults.{Verdict, and_then, check_each}

module _ (check : ℕ → Verdict) where
  first : (n k : ℕ) → k < n → check_each check k (n - k) ≡ and_then (check k) (check_each check (k + 1) (n - (k + 1)))
  unfolding check_each
  first n k h = let e : n - k ≡ suc (n - (k + 1)) = omega arith in ap (check_each check k) e

  -- a check that passes is passed over
  pub passed_more : (n k : ℕ) → k < n → check k ≡ Ok tt → check_each check (k + 1) (n - (k + 1)) ≡ check_each check k (n - k)
  passed_more n k h e = sym (first n k h ∙ ap (λ r. and_then r (check_each check (k + 1) (n - (k + 1)))) e)

  -- one that does not is the answer
  pub fault_found : (n k : ℕ) (f : Fault) → k < n → check k ≡ Err f → Err f ≡ check_each check k (n - k)
  fault_found n k f h e = sym (first n k h ∙ ap (λ r. and_then r (check_each check (k + 1) (n - (k + 1)))) e)

  pub all_passed : (n k : ℕ) → n ≤ k → Ok tt ≡ check_each check k (n - k)
  unfolding check_each
  all_passed n k h = let z : n - k ≡ 0 = omega arith in sym (ap (check_each check k) z)

  -- all pass just when each does
  pub each_passes : (n k : ℕ) → ((j : ℕ) → k ≤ j → j < k + n → check j ≡ Ok tt) → check_each check k n ≡ Ok tt
  unfolding check_each
  each_passes zero k each = refl
  each_passes (suc n) k each =
      ap (λ r. and_then r (check_each check (k + 1) n)) (each k (omega arith) (omega arith))
      ∙ each_passes n (k + 1) (λ j h g. each j (omega arith) (omega arith))

  pub each_passed : (n k : ℕ) → check_each check k n ≡ Ok tt → (j : ℕ) → k ≤ j → j < k + n → check j ≡ Ok tt
  unfolding check_each
  each_passed zero k e j h g = absurd (omega arith)
  each_passed (suc n) k e j h g =
      let p = both (check k) (check_each check (k + 1) n) e in
      ⊎_elim (λ (s : j ≡ k). ap check s ∙ p.0) (λ (ne : j ≡ k → ⊥). each_passed n (k + 1) p.1 j (omega (arith, ne)) (omega arith)) (cases_eq j k)
    where
      both : (a b : Verdict) → and_then a b ≡ Ok tt → (a ≡ Ok tt) × (b ≡ Ok tt)
      both (Ok u) b e = (refl, e)
      both (Err f) b e = let z : ◌≡◌ {A = ℕ} 0 1 = cc in absurd (omega arith)
