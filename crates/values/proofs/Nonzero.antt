-- The search for a byte that is not 0, from what is known of its first hit.
use Rattle.std.proofs.Common.{◌≡◌, ◌≢◌, ◌+◌, ◌-◌, ◌≤◌, ◌<◌, ℕ, zero, suc, List, length, drop, slice_index, Option, Some, None, sym, ap, ◌∙◌, ⊎_elim, arith, add-one, drop-cons, drop_of_length-le}
use Rattle.std.specs.Option.{MatchOption}
use Rattle.std.proofs.lemmas.Bool.{cases_lt}
use native.Mathlib.Numerals.{unary_clauses}
use Rattle.values.specs.Packing.{first_nonzero}
use Rattle.values.specs.Padded.{pass_zero, find_nonzero}

-- where all before place s + n is 0, the search from s on goes on from there
past_zeros : (b : List ℕ) (s n : ℕ) → s + n ≤ length b → ((k : ℕ) → s ≤ k → k < s + n → slice_index b k ≡ 0) → first_nonzero (drop s b) s ≡ first_nonzero (drop (s + n) b) (s + n)
past_zeros b s zero h zeros = simp unary_clauses
past_zeros b s (suc n) h zeros =
    past_zeros b s n (omega arith) (λ k l m. zeros k l (omega arith))
    ∙ ap (λ (t : List ℕ). first_nonzero t (s + n)) (drop-cons b (s + n) 0 (omega arith))
    ∙ pass_zero (slice_index b (s + n)) (drop (suc (s + n)) b) (s + n) (zeros (s + n) (omega arith) (omega arith))
    ∙ simp (unary_clauses, add-one)

-- None, where all from place s on are 0, and else the first place whose byte is not
pub first_is : (b : List ℕ) (s n : ℕ) (r : Option ℕ) → length b ≡ n
    → MatchOption r ((k : ℕ) → s ≤ k → k < n → slice_index b k ≡ 0) (λ i. (s ≤ i) × (i < n) × (slice_index b i ≢ 0) × ((k : ℕ) → s ≤ k → k < i → slice_index b k ≡ 0))
    → r ≡ first_nonzero (drop s b) s
first_is b s n None e none =
    ⊎_elim
    (λ (h : s < n).
    let at : s + (n - s) ≡ n = omega arith in
    let all = past_zeros b s (n - s) (omega arith) (λ k l m. none k l (omega arith)) in
    sym (all ∙ ap (λ (t : List ℕ). first_nonzero t (s + (n - s))) (drop_of_length-le b (omega arith))))
    (λ (h : n ≤ s). sym (ap (λ (t : List ℕ). first_nonzero t s) (drop_of_length-le b (omega arith))))
    (cases_lt s n)
first_is b s n (Some i) e found =
    let at : s + (i - s) ≡ i = let low = found.0 in omega arith in
    let zeros = past_zeros b s (i - s) (let l = found.1 in omega arith) (λ k l m. found.3 k l (omega arith)) in
    sym
    (zeros ∙ ap (λ (j : ℕ). first_nonzero (drop j b) j) at
    ∙ ap (λ (t : List ℕ). first_nonzero t i) (drop-cons b i 0 (let l = found.1 in omega arith))
    ∙ find_nonzero (slice_index b i) (drop (suc i) b) i found.2)
