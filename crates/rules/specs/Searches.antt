-- Searches, counts and loops over numbers below a bound, as the rules use them for the sixteen stations.
use Rattle.std.specs.Prelude.{ℕ, zero, suc, Bool, false, cond, ◌||◌, Some, None, Option}

-- does some number below n pass?
abbrev pub any_below : ℕ → (ℕ → Bool) → Bool
any_below zero p = false
any_below (suc n) p = p n || any_below n p

-- the smallest number below n that passes
abbrev pub first_below : ℕ → (ℕ → Bool) → Option ℕ
first_below zero p = None
first_below (suc n) p = elim (first_below n p) [ Some k ↦ Some k | None ↦ cond (p n) (Some n) None ]

-- how many numbers below n pass?
abbrev pub count_below : ℕ → (ℕ → Bool) → ℕ
count_below zero p = 0
count_below (suc n) p = cond (p n) (suc (count_below n p)) (count_below n p)

-- take what is picked, again and again, at most n times, until nothing is picked
abbrev pub until : {A : Type 0} → ℕ → (A → Option ℕ) → (ℕ → A → A) → A → A
until zero pick go a = a
until (suc n) pick go a = elim (pick a) [ None ↦ a | Some k ↦ until n pick go (go k a) ]
