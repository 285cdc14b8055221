-- The turns of a loop that counts up, and tests joined.
use Rattle.std.proofs.Common.{◌≡◌, ℕ, suc, ◌+◌, Bool, ◌&&◌, ◌||◌, ap, ◌∙◌, add-one}

-- one more turn, as the rules' recursion has it
pub one_more : {B : Type 0} (f : ℕ → B) (n : ℕ) → f (n + 1) ≡ f (suc n)
one_more f n = ap f (add-one n)

-- equal parts make equal conjunctions
pub and_both : {a b x y : Bool} → a ≡ b → x ≡ y → (a && x) ≡ (b && y)
and_both {a} {b} {x} {y} p q = ap (λ z. z && x) p ∙ ap (λ z. b && z) q

-- equal parts make equal disjunctions
pub or_both : {a b x y : Bool} → a ≡ b → x ≡ y → (a || x) ≡ (b || y)
or_both {a} {b} {x} {y} p q = ap (λ z. z || x) p ∙ ap (λ z. b || z) q
