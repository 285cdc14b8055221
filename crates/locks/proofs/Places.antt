-- A list searched, and its elements counted, by their places.
use Rattle.std.proofs.Common.{◌≡◌, ℕ, zero, suc, ◌+◌, Bool, true, false, cond, ◌||◌, List, [], ◌∷◌, length, get_or, sym, refl, ap, ◌∙◌, arith}
use Rattle.std.proofs.lemmas.List.Recursion.{is_count_by}
use Rattle.std.specs.List.{list_any, count_by}
use Rattle.rules.specs.Searches.{any_below, count_below}

-- the number 0 looked at first
pub any_first : (n : ℕ) (p : ℕ → Bool) → any_below (suc n) p ≡ (p 0 || any_below n (λ k. p (suc k)))
any_first zero p = refl
any_first (suc n) p = ap (λ b. p (suc n) || b) (any_first n p) ∙ swap (p (suc n)) (p 0)
  where
    swap : (a b : Bool) → (a || (b || any_below n (λ k. p (suc k)))) ≡ (b || (a || any_below n (λ k. p (suc k))))
    swap true true = refl
    swap true false = refl
    swap false b = refl

-- the number 0 counted first
count_first : (n : ℕ) (p : ℕ → Bool) → count_below (suc n) p ≡ cond (p 0) (suc (count_below n (λ k. p (suc k)))) (count_below n (λ k. p (suc k)))
count_first zero p = refl
count_first (suc n) p = ap (λ m. cond (p (suc n)) (suc m) m) (count_first n p) ∙ swap (p (suc n)) (p 0) (count_below n (λ k. p (suc k)))
  where
    swap : (a b : Bool) (m : ℕ) → cond a (suc (cond b (suc m) m)) (cond b (suc m) m) ≡ cond b (suc (cond a (suc m) m)) (cond a (suc m) m)
    swap true true m = refl
    swap true false m = refl
    swap false true m = refl
    swap false false m = refl

module _ {X : Type 0} (p : X → Bool) (d : X) where
  -- some element passes where one does at some place
  pub any_by_place : (xs : List X) → list_any p xs ≡ any_below (length xs) (λ k. p (get_or xs k d))
  any_by_place [] = refl
  any_by_place (x ∷ xs) = ap (λ b. p x || b) (any_by_place xs) ∙ sym (any_first (length xs) (λ k. p (get_or (x ∷ xs) k d)))

  -- as many elements pass as do at their places
  pub count_by_place : (xs : List X) → count_by p xs ≡ count_below (length xs) (λ k. p (get_or xs k d))
  count_by_place xs = sym (is_count_by count p refl more xs)
    where
      count : List X → ℕ
      count ys = count_below (length ys) (λ k. p (get_or ys k d))

      more : (y : X) (ys : List X) → count (y ∷ ys) ≡ cond (p y) (1 + count ys) (count ys)
      more y ys = count_first (length ys) (λ k. p (get_or (y ∷ ys) k d)) ∙ ap (λ n. cond (p y) n (count ys)) (omega arith)
