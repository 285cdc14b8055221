-- What timings owe of their seven bytes; the laws of packing follow for every kind.
use Rattle.std.specs.Prelude.{◌≡◌, ℕ, zero, suc, ◌+◌, ◌/◌, ◌%◌, ◌<◌, ◌≤◌, min, Bool, true, false, cond, leb, ◌⊎◌, List, [], ◌∷◌, take, Some, None, nat_le, slice_index, refl}
use Rattle.std.proofs.Common.{ap, sym, ◌∙◌, inl, inr, ⊎_elim, arith, rules, leb-true}
use Rattle.std.specs.Option.{option_or}
use Rattle.values.specs.Packing.{Bytes16, number_at}
use Rattle.values.specs.Links.{link_of, link_number}
use Rattle.values.specs.Timings.{timing_parts, timing_offence, timing_made}
use Rattle.values.specs.declared.timing.Timing.{Timing}
use Rattle.values.specs.Padded.{Parts, take_listed, low_byte, high_byte}
use Rattle.values.specs.Equality.{same_timing}

pub seven_small : (p q r s t u w : ℕ) → p < 256 → q < 256 → r < 256 → s < 256 → t < 256 → u < 256 → w < 256 → (k : ℕ) → slice_index (p ∷ q ∷ r ∷ s ∷ t ∷ u ∷ w ∷ []) k < 256
seven_small p q r s t u w a b c d e f g k = grind (arith)

pub link_back : (n : ℕ) → n ≤ 2 → link_number (link_of n) ≡ n
link_back zero h = refl
link_back (suc zero) h = refl
link_back (suc (suc zero)) h = refl
link_back (suc (suc (suc n))) h = absurd (omega arith)

-- the two bytes of a time that does not offend
pub time_bytes : (b : List ℕ) (k : ℕ) → Bytes16 b → number_at b k ≤ 36000 → (min (number_at b k) 36000 % 256 ≡ slice_index b k) × (min (number_at b k) 36000 / 256 % 256 ≡ slice_index b (k + 1))
time_bytes b k row h = (low_byte 36000 _ _ h (row.1 k) (row.1 (k + 1)), high_byte 36000 _ _ h (row.1 k) (row.1 (k + 1)))

-- which part offends first, and which then do not
pub which : (p q r s : Bool) (k : ℕ) → option_or {T = ℕ} (cond p None (Some 0)) (option_or (cond q None (Some 2)) (option_or (cond r None (Some 4)) (cond s None (Some 6)))) ≡ Some k
    → (k ≡ 0) ⊎ (((k ≡ 2) × (p ≡ true)) ⊎ (((k ≡ 4) × (p ≡ true) × (q ≡ true)) ⊎ ((k ≡ 6) × (p ≡ true) × (q ≡ true) × (r ≡ true))))
which false q r s k e = inl cc
which true false r s k e = inr (inl (cc, refl))
which true true false s k e = inr (inr (inl (cc, refl, refl)))
which true true true false k e = inr (inr (inr (cc, refl, refl, refl)))
which true true true true k e = absurd cc

pub none_offends : (p q r s : Bool) → option_or {T = ℕ} (cond p None (Some 0)) (option_or (cond q None (Some 2)) (option_or (cond r None (Some 4)) (cond s None (Some 6)))) ≡ None → (p ≡ true) × (q ≡ true) × (r ≡ true) × (s ≡ true)
none_offends true true true true e = (refl, refl, refl, refl)
none_offends false q r s e = absurd cc
none_offends true false r s e = absurd cc
none_offends true true false s e = absurd cc
none_offends true true true false e = absurd cc

pub fronts_at : (b : List ℕ) → Bytes16 b → timing_offence b ≡ None → timing_parts (timing_made b) ≡ take 7 b
fronts_at b row e =
    let n = none_offends _ _ _ _ e in
    let up = time_bytes b 0 row (leb-true _ _ n.0) in
    let down = time_bytes b 2 row (leb-true _ _ n.1) in
    let wait = time_bytes b 4 row (leb-true _ _ n.2) in
    let link = link_back (slice_index b 6) (leb-true _ _ n.3) in
    let l = take_listed 7 b (let h = row.0 in omega arith) in
    cc (up.0, up.1, down.0, down.1, wait.0, wait.1)

-- the value made of the bytes begins as they do, up to the part that offends
abbrev pub Begins : List ℕ → ℕ → Type 0
Begins b k = (k ≤ 7) × (k < 16) × ((v : Timing) × (take k (timing_parts v) ≡ take k b))

pub begins_by : (b : List ℕ) (k n : ℕ) → k ≡ n → n ≤ 7 → take n (timing_parts (timing_made b)) ≡ take n b → Begins b k
begins_by b k n at low e =
    let v = timing_made b in
    (omega arith, omega arith, (v, ap (λ (m : ℕ). take m (timing_parts v)) at ∙ e ∙ sym (ap (λ (m : ℕ). take m b) at)))

pub begins_at : (b : List ℕ) (k : ℕ) → Bytes16 b → timing_offence b ≡ Some k → Begins b k
begins_at b k row e =
    let long = row.0 in
    let up = λ (h : leb (number_at b 0) 36000 ≡ true). time_bytes b 0 row (leb-true _ _ h) in
    let down = λ (h : leb (number_at b 2) 36000 ≡ true). time_bytes b 2 row (leb-true _ _ h) in
    let wait = λ (h : leb (number_at b 4) 36000 ≡ true). time_bytes b 4 row (leb-true _ _ h) in
    ⊎_elim (λ (h : k ≡ 0). begins_by b k 0 h (omega arith) refl)
    (⊎_elim (λ (h : (k ≡ 2) × (nat_le (number_at b 0) 36000 ≡ true)).
    let l = take_listed 2 b (omega arith) in
    begins_by b k 2 h.0 (omega arith) (cc ((up h.1).0, (up h.1).1)))
    (⊎_elim (λ (h : (k ≡ 4) × (nat_le (number_at b 0) 36000 ≡ true) × (nat_le (number_at b 2) 36000 ≡ true)).
    let l = take_listed 4 b (omega arith) in
    begins_by b k 4 h.0 (omega arith) (cc ((up h.1).0, (up h.1).1, (down h.2).0, (down h.2).1)))
    (λ (h : (k ≡ 6) × (nat_le (number_at b 0) 36000 ≡ true) × (nat_le (number_at b 2) 36000 ≡ true) × (nat_le (number_at b 4) 36000 ≡ true)).
    let l = take_listed 6 b (omega arith) in
    begins_by b k 6 h.0 (omega arith) (cc ((up h.1).0, (up h.1).1, (down h.2).0, (down h.2).1, (wait h.3).0, (wait h.3).1)))))
    (which _ _ _ _ k e)

pub parts : Parts 7 timing_parts timing_offence timing_made
parts = record {
  few = search rules;
  long = λ v. refl;
  small = λ v. seven_small _ _ _ _ _ _ _ (omega arith) (omega arith) (omega arith) (omega arith) (omega arith) (omega arith) (search rules);
  sound = λ v. search rules;
  again = λ v. same_timing _ _ (search rules) (search rules) (search rules) (search rules);
  fronts = fronts_at;
  begins = begins_at;
}
