-- Searches, counts and loops over the numbers below a bound.
use Rattle.std.proofs.Common.{◌≡◌, ℕ, zero, suc, ◌<◌, ◌≤◌, Bool, true, false, eqb, Some, None, Option, refl, ap, inl, inr, arith}
use mathlib.Core.Path.{fun_ext}
use Rattle.std.proofs.lemmas.Bool.{eq-eqb, cases_eq, both_ways, or_cases, true_from_ne_false, false_from_ne_true}
use Rattle.rules.specs.Searches.{any_below, first_below, count_below, until}

-- a number equals itself
pub eqb_refl : (n : ℕ) → eqb n n ≡ true
eqb_refl n = eq-eqb n n refl

-- if some number below n passes, there is one that does
pub any_below_witness : (n : ℕ) (p : ℕ → Bool) → any_below n p ≡ true → (k : ℕ) × (k < n) × (p k ≡ true)
any_below_witness zero p e = cc
any_below_witness (suc n) p e = elim (or_cases (p n) (any_below n p) e) [
  | inl h ↦ (n, omega arith, h)
  | inr h ↦ (let r = any_below_witness n p h in (r.0, omega (arith, r.1), r.2))
]

-- if no number below n passes, each fails
pub any_below_none : (n : ℕ) (p : ℕ → Bool) → any_below n p ≡ false → (k : ℕ) → k < n → p k ≡ false
any_below_none zero p e k l = absurd (omega arith)
any_below_none (suc n) p e k l = grind (arith, any_below_none n p)

-- if one below n passes, some number does
pub any_below_from : (n : ℕ) (p : ℕ → Bool) (k : ℕ) → k < n → p k ≡ true → any_below n p ≡ true
any_below_from n p k l h = true_from_ne_false (any_below n p) (λ e. both_ways (p k) (any_below_none n p e k l) h)

-- if none below n can pass, no number does
pub any_below_false : (n : ℕ) (p : ℕ → Bool) → ((k : ℕ) → k < n → p k ≡ true → ⊥) → any_below n p ≡ false
any_below_false n p no_one = false_from_ne_true (any_below n p)
    (λ e. let r = any_below_witness n p e in no_one r.0 r.1 r.2)

-- tests that agree everywhere find alike
pub any_below_same : (n : ℕ) (p q : ℕ → Bool) → ((k : ℕ) → p k ≡ q k) → any_below n p ≡ any_below n q
any_below_same n p q h = ap (any_below n) (fun_ext h)

-- the first number that passes is below n and passes
pub first_below_passes : (n : ℕ) (p : ℕ → Bool) (k : ℕ) → first_below n p ≡ Some k → (k < n) × (p k ≡ true)
first_below_passes zero p k e = cc
first_below_passes (suc n) p k e = grind (arith, first_below_passes n p k)

-- if there is no first number that passes, each below n fails
pub first_below_none : (n : ℕ) (p : ℕ → Bool) → first_below n p ≡ None → (k : ℕ) → k < n → p k ≡ false
first_below_none zero p e k l = absurd (omega arith)
first_below_none (suc n) p e k l = grind (arith, first_below_none n p)

-- if each number below n fails, there is no first that passes
pub first_below_empty : (n : ℕ) (p : ℕ → Bool) → ((k : ℕ) → k < n → p k ≡ false) → first_below n p ≡ None
first_below_empty n p none = grind (arith, first_below_passes)

-- where two tests agree but at k, which only the first passes, the second counts one fewer
pub count_one_fewer : (n : ℕ) (p q : ℕ → Bool) (k : ℕ) → k < n → p k ≡ true → q k ≡ false → ((j : ℕ) → (j ≡ k → ⊥) → q j ≡ p j)
    → suc (count_below n q) ≡ count_below n p
count_one_fewer zero p q k l a b same = absurd (omega arith)
count_one_fewer (suc n) p q k l a b same = grind (arith, cases_eq k n, below n, count_one_fewer n p q k)
  where
    below : (m : ℕ) → m ≤ k → count_below m q ≡ count_below m p
    below zero h = refl
    below (suc m) h = let ih = below m (omega arith) in rw (same m (omega arith), ih)

-- if the count is 0, each number below n fails
pub count_zero : (n : ℕ) (p : ℕ → Bool) → count_below n p ≡ 0 → (k : ℕ) → k < n → p k ≡ false
count_zero zero p e k l = absurd (omega arith)
count_zero (suc n) p e k l = grind (arith, count_zero n p)

-- the count below n is at most n
pub count_at_most : (n : ℕ) (p : ℕ → Bool) → count_below n p ≤ n
count_at_most zero p = omega arith
count_at_most (suc n) p = grind (arith, count_at_most n p)

-- a loop whose turns keep P
module _ {A : Type 0} (pick : A → Option ℕ) (go : ℕ → A → A) (P : A → Type 0)
    (keeps : (a : A) (k : ℕ) → pick a ≡ Some k → P a → P (go k a)) where
  -- the loop keeps P
  pub until_keeps : (n : ℕ) (a : A) → P a → P (until n pick go a)
  until_keeps zero a h = h
  until_keeps (suc n) a h = grind (arith, keeps, until_keeps n)

  -- a loop whose size falls with each turn ends with nothing left to pick
  pub until_exhausts : (size : A → ℕ) → ((a : A) (k : ℕ) → pick a ≡ Some k → P a → size (go k a) < size a)
      → ((a : A) → P a → size a ≡ 0 → pick a ≡ None) → (n : ℕ) (a : A) → P a → size a ≤ n → pick (until n pick go a) ≡ None
  until_exhausts size falls none zero a h l = none a h (omega arith)
  until_exhausts size falls none (suc n) a h l = grind (arith, keeps, falls, until_exhausts size falls none n)
