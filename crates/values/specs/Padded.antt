-- The laws of packing, once for every kind: what they owe of n bytes of parts gives them for all 16.
use Rattle.std.specs.Prelude.{◌≡◌, ℕ, zero, suc, ◌+◌, ◌-◌, ◌*◌, ◌/◌, ◌%◌, ◌<◌, ◌≤◌, min, Bool, cond, ◌⊎◌, List, [], ◌∷◌, ◌++◌, length, take, drop, map, replicate, Some, None, Ok, Err, Option, ◌≢◌, slice_index, slice_index_or, refl}
use Rattle.std.proofs.Common.{ap, sym, ◌∙◌, subst, inl, inr, ⊎_elim, arith, ne_eqb, length-append, length-take, length-drop, take-append-drop}
use Rattle.std.proofs.Math.Seq.{drop-append_seam}
use Rattle.std.proofs.lemmas.List.{get_or_append_left, get_or-append_right, get_or-take, get_or-drop, ext_get_or, length-replicate, length-take-le}
use Rattle.std.proofs.lemmas.List.FromFn.{fill_by_all}
use Rattle.std.specs.List.{range_with_len}
use Rattle.std.proofs.lemmas.Bool.{cases_lt, cases_eq}
use Rattle.std.specs.Option.{option_or}
use Rattle.values.specs.Packing.{Bytes16, BeginsAs, first_nonzero, value_unless, padded, unpadded}

-- a 0 is passed over
pub pass_zero : (x : ℕ) (t : List ℕ) (k : ℕ) → x ≡ 0 → first_nonzero (x ∷ t) k ≡ first_nonzero t (k + 1)
pass_zero x t k e = ap (λ (y : ℕ). first_nonzero (y ∷ t) k) e

-- anything else is found
pub find_nonzero : (x : ℕ) (t : List ℕ) (k : ℕ) → (x ≢ 0) → first_nonzero (x ∷ t) k ≡ Some k
find_nonzero x t k ne = ap (λ (c : Bool). cond c (first_nonzero t (k + 1)) (Some k)) (ne_eqb x 0 ne)

-- where none is found, all are 0
all_zero : (bs : List ℕ) (k : ℕ) → first_nonzero bs k ≡ None → bs ≡ replicate (length bs) 0
all_zero [] k e = refl
all_zero (b ∷ bs) k e =
    ⊎_elim
    (λ (h : b ≡ 0). ap (λ (x : ℕ). x ∷ bs) h ∙ ap (λ (t : List ℕ). 0 ∷ t) (all_zero bs (k + 1) (sym (pass_zero b bs k h) ∙ e)))
    (λ (h : b ≡ 0 → ⊥). let f = find_nonzero b bs k h in absurd cc)
    (cases_eq b 0)

-- where one is found, it lies in the list, and those before it are 0
found_after_zeros : (bs : List ℕ) (s k : ℕ) → first_nonzero bs s ≡ Some k → (s ≤ k) × (k < s + length bs) × ((j : ℕ) → s + j < k → slice_index bs j ≡ 0)
found_after_zeros [] s k e = absurd cc
found_after_zeros (b ∷ bs) s k e =
    ⊎_elim
    (λ (h : b ≡ 0).
    let i = found_after_zeros bs (s + 1) k (sym (pass_zero b bs s h) ∙ e) in
    (omega (arith, i.0), omega (arith, i.1), λ j. later h i.2 j))
    (λ (h : b ≡ 0 → ⊥).
    let same : s ≡ k = let f = find_nonzero b bs s h in cc in
    (omega arith, omega arith, λ j low. absurd (omega arith)))
    (cases_eq b 0)
  where
    later : b ≡ 0 → ((j : ℕ) → s + 1 + j < k → slice_index bs j ≡ 0) → (j : ℕ) → s + j < k → slice_index (b ∷ bs) j ≡ 0
    later h f zero low = h
    later h f (suc j) low = f j (omega arith)

-- zeros are passed over
none_in_zeros : (n k : ℕ) → first_nonzero (replicate n 0) k ≡ None
none_in_zeros zero k = refl
none_in_zeros (suc n) k = none_in_zeros n (k + 1)

-- what a kind shows of the n bytes of its parts
pub record Parts {V : Type 0} (n : ℕ) (parts : V → List ℕ) (offence : List ℕ → Option ℕ) (made : List ℕ → V) : Type 0 where
  pub few : n ≤ 16
  pub long : (v : V) → length (parts v) ≡ n
  pub small : (v : V) (k : ℕ) → slice_index (parts v) k < 256
  -- the parts of a value do not offend, and make it again
  pub sound : (v : V) → offence (padded n (parts v)) ≡ None
  pub again : (v : V) → made (padded n (parts v)) ≡ v
  -- parts that do not offend are those of the value made of them
  pub fronts : (b : List ℕ) → Bytes16 b → offence b ≡ None → parts (made b) ≡ take n b
  -- before a part that offends, the bytes are those of some value
  pub begins : (b : List ℕ) (k : ℕ) → Bytes16 b → offence b ≡ Some k → (k ≤ n) × (k < 16) × ((v : V) × (take k (parts v) ≡ take k b))

-- a list of zeros has 0 at every place
pub get_or_zeros : (n k : ℕ) → slice_index_or {A = ℕ} (replicate n 0) k 0 ≡ 0
get_or_zeros zero k = refl
get_or_zeros (suc n) zero = refl
get_or_zeros (suc n) (suc k) = get_or_zeros n k

-- what was accepted did not offend
accepted : {V : Type 0} (o p : Option ℕ) (w v : V) → value_unless (option_or o p) w ≡ Ok v → (o ≡ None) × (p ≡ None) × (w ≡ v)
accepted (Some k) p w v e = absurd cc
accepted None (Some k) w v e = absurd cc
accepted None None w v e = (refl, refl, cc)

-- what was refused offended there
refused : {V : Type 0} (o p : Option ℕ) (w : V) (k : ℕ) → value_unless (option_or o p) w ≡ Err k → (o ≡ Some k) ⊎ ((o ≡ None) × (p ≡ Some k))
refused (Some j) p w k e = inl cc
refused None (Some j) w k e = inr (refl, cc)
refused None None w k e = absurd cc

-- bytes that do not offend unpack to the value made of them
pub accepts : {V : Type 0} (n : ℕ) (offence : List ℕ → Option ℕ) (made : List ℕ → V) (b : List ℕ) → offence b ≡ None → first_nonzero (drop n b) n ≡ None → Ok (made b) ≡ unpadded n offence made b
accepts n offence made b e f = simp (e, f)

-- lists that agree below k begin alike
same_front : (xs ys : List ℕ) (k : ℕ) → k ≤ length xs → k ≤ length ys → ((j : ℕ) → j < k → slice_index xs j ≡ slice_index ys j) → take k xs ≡ take k ys
same_front xs ys k hx hy each =
    let lx : length (take k xs) ≡ k = length-take k xs ∙ omega arith in
    let ly : length (take k ys) ≡ k = length-take k ys ∙ omega arith in
    ext_get_or 0 _ _ (lx ∙ sym ly) (λ j h. let low : j < k = omega arith in get_or-take k xs j 0 low ∙ each j low ∙ sym (get_or-take k ys j 0 low))

module _ {V : Type 0} {n : ℕ} {parts : V → List ℕ} {offence : List ℕ → Option ℕ} {made : List ℕ → V} (p : Parts n parts offence made) where
  -- a part's byte, and a zero after the parts
  at_part : (v : V) (k : ℕ) → k < n → slice_index (padded n (parts v)) k ≡ slice_index (parts v) k
  at_part v k h = let l = p.long v in let g : k < length (parts v) = omega arith in get_or_append_left (parts v) (replicate (16 - n) 0) 0 k g

  at_zero : (v : V) (k : ℕ) → n ≤ k → slice_index (padded n (parts v)) k ≡ 0
  at_zero v k h = get_or-append_right (parts v) (replicate (16 - n) 0) n k 0 (p.long v) h ∙ get_or_zeros (16 - n) (k - n)

  padded_long : (v : V) → length (padded n (parts v)) ≡ 16
  padded_long v = let few = p.few in let long = p.long v in simp (length-append, length-replicate) (omega arith)

  -- a packed value is 16 bytes
  pub size : (v : V) → Bytes16 (padded n (parts v))
  size v = (
    padded_long v,
    λ k. ⊎_elim
        (λ (h : k < n). let e = at_part v k h in let s = p.small v k in omega arith)
        (λ (h : n ≤ k). let e = at_zero v k h in omega arith)
        (cases_lt k n),
  )

  -- a packed value unpacks to itself
  pub back : (v : V) → unpadded n offence made (padded n (parts v)) ≡ Ok v
  back v =
      let tail : drop n (padded n (parts v)) ≡ replicate (16 - n) 0 = subst (λ (m : ℕ). drop m (padded n (parts v)) ≡ replicate (16 - n) 0) (p.long v) (drop-append_seam (parts v) (replicate (16 - n) 0)) in
      simp (p.sound v, tail, none_in_zeros (16 - n) n, p.again v)

  -- bytes that unpack are those that their value packs to
  pub whole : (b : List ℕ) (v : V) → Bytes16 b → unpadded n offence made b ≡ Ok v → padded n (parts v) ≡ b
  whole b v row e =
      let a = accepted (offence b) (first_nonzero (drop n b) n) (made b) v e in
      let f : parts v ≡ take n b = ap parts (sym a.2) ∙ p.fronts b row a.0 in
      let l : length (drop n b) ≡ 16 - n = length-drop n b ∙ ap (λ (m : ℕ). m - n) row.0 in
      let z : replicate (16 - n) 0 ≡ drop n b = sym (all_zero (drop n b) n a.1 ∙ ap (λ (m : ℕ). replicate m 0) l) in
      ap (λ (t : List ℕ). t ++ replicate (16 - n) 0) f ∙ ap (λ (t : List ℕ). take n b ++ t) z ∙ take-append-drop n b

  -- an offending part: before it the bytes are those of some value's parts
  part_offends : (b : List ℕ) (k : ℕ) → Bytes16 b → offence b ≡ Some k → BeginsAs (λ (v : V). padded n (parts v)) b k
  part_offends b k row e =
      let g = p.begins b k row e in
      let v = g.2.0 in
      let low : k ≤ n = g.0 in
      let few = p.few in let long = p.long v in let l = row.0 in let pl = padded_long v in (
        g.1,
        (
          v,
          same_front (padded n (parts v)) b k (omega arith) (omega arith)
              (λ j h. at_part v j (omega arith) ∙ sym (get_or-take k (parts v) j 0 h) ∙ ap (λ (t : List ℕ). slice_index t j) g.2.1 ∙ get_or-take k b j 0 h),
        ),
      )

  -- an offending byte after the parts: before it the bytes are those of the value made of the parts
  zero_offends : (b : List ℕ) (k : ℕ) → Bytes16 b → offence b ≡ None → first_nonzero (drop n b) n ≡ Some k → BeginsAs (λ (v : V). padded n (parts v)) b k
  zero_offends b k row e f =
      let v = made b in
      let g = found_after_zeros (drop n b) n k f in
      let ld = length-drop n b in let l = row.0 in let pl = padded_long v in let few = p.few in
      let low : k < 16 = omega (arith, g.0, g.1) in (
        low,
        (
          v,
          same_front (padded n (parts v)) b k (omega arith) (omega arith)
              (λ j h. ⊎_elim
              (λ (m : j < n). at_part v j m ∙ ap (λ (t : List ℕ). slice_index t j) (p.fronts b row e) ∙ get_or-take n b j 0 m)
              (λ (m : n ≤ j).
              let s : n + (j - n) ≡ j = omega arith in
              at_zero v j m ∙ sym (ap (λ (i : ℕ). slice_index b i) (sym s) ∙ sym (get_or-drop n b (j - n) 0) ∙ g.2 (j - n) (omega arith)))
              (cases_lt j n)),
        ),
      )

  -- before the byte that a refusal names, the bytes begin as some value's do
  pub first : (b : List ℕ) (k : ℕ) → Bytes16 b → unpadded n offence made b ≡ Err k → BeginsAs (λ (v : V). padded n (parts v)) b k
  first b k row e =
      ⊎_elim
      (λ (h : offence b ≡ Some k). part_offends b k row h)
      (λ (h : (offence b ≡ None) × (first_nonzero (drop n b) n ≡ Some k)). zero_offends b k row h.0 h.1)
      (refused (offence b) (first_nonzero (drop n b) n) (made b) k e)

-- the first n numbers of a list, one by one
pub take_listed : (n : ℕ) (b : List ℕ) → n ≤ length b → take n b ≡ map (slice_index b) (range_with_len 0 n)
take_listed n b h = fill_by_all (slice_index b) (take n b) n 0 (length-take-le n b h) (λ k low. get_or-take n b k 0 low)

-- the two bytes of a number that the limit c does not cut
pub low_byte : (c x y : ℕ) → x + y * 256 ≤ c → x < 256 → y < 256 → min (x + y * 256) c % 256 ≡ x
low_byte c x y h a b = let m : min (x + y * 256) c ≡ x + y * 256 = omega arith in ap (λ (n : ℕ). n % 256) m ∙ omega arith

pub high_byte : (c x y : ℕ) → x + y * 256 ≤ c → x < 256 → y < 256 → min (x + y * 256) c / 256 % 256 ≡ y
high_byte c x y h a b = let m : min (x + y * 256) c ≡ x + y * 256 = omega arith in ap (λ (n : ℕ). n / 256 % 256) m ∙ omega arith
