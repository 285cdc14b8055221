-- Parts of a list, and what a part that is written over leaves. Stated for any place and width: a row in a block and a
-- block in an image are both such parts.
use Rattle.std.proofs.Common.{◌≡◌, ℕ, zero, suc, ◌+◌, ◌-◌, ◌<◌, ◌≤◌, ◌⊎◌, List, [], ◌∷◌, ◌++◌, length, get_or, take, drop, set, sym, refl, ap, ◌∙◌, ⊎_elim, append_assoc, arith, length-append, length-drop, take-append-drop, length-take, take_all}
use lib.Seq.{paste}
use Rattle.std.proofs.lemmas.List.{ext_get_or, get_or_append_left, get_or-append_right, get_or-take, get_or-drop, set-append_left, drop-set-lt, drop-drop}
use Rattle.image.specs.Blocks.{part}

pub length_part : (d : List ℕ) (at n : ℕ) → at + n ≤ length d → length (part d at n) ≡ n
length_part d at n h = let k = length-drop at d in length-take n (drop at d) ∙ omega arith

pub get_d_part : (d : List ℕ) (at n j : ℕ) → j < n → get_or (part d at n) j 0 ≡ get_or d (at + j) 0
get_d_part d at n j h = get_or-take n (drop at d) j 0 h ∙ get_or-drop at d j 0

-- a part whose width is computed
pub part_as : (d : List ℕ) (at n w : ℕ) → w ≡ n → part d at w ≡ part d at n
part_as d at n w e = ap (λ (m : ℕ). part d at m) e

-- a part is a list of the same bytes
pub part_is : (d s : List ℕ) (at n : ℕ) → at + n ≤ length d → length s ≡ n → ((j : ℕ) → j < n → get_or d (at + j) 0 ≡ get_or s j 0) → part d at n ≡ s
part_is d s at n h wide each =
    let l = length_part d at n h in
    ext_get_or 0 _ _ (l ∙ sym wide) (λ j g. let low : j < n = omega arith in get_d_part d at n j low ∙ each j low)

-- two parts with the same bytes are the same
pub same_part : (d e : List ℕ) (a b n : ℕ) → a + n ≤ length d → b + n ≤ length e → ((j : ℕ) → j < n → get_or d (a + j) 0 ≡ get_or e (b + j) 0) → part d a n ≡ part e b n
same_part d e a b n h g each = part_is d (part e b n) a n h (length_part e b n g) (λ j low. each j low ∙ sym (get_d_part e b n j low))

-- a part of a part
pub part_of_part : (d : List ℕ) (at n a m : ℕ) → at + n ≤ length d → a + m ≤ n → part (part d at n) a m ≡ part d (at + a) m
part_of_part d at n a m h g =
    let l = length_part d at n h in
    same_part (part d at n) d a (at + a) m (omega arith) (omega arith)
    (λ j low. get_d_part d at n (a + j) (omega arith) ∙ (let e : at + (a + j) ≡ at + a + j = omega arith in ap (λ (i : ℕ). get_or d i 0) e))

-- a part after a place that is set
pub part_set_before : (d : List ℕ) (i x at n : ℕ) → i < at → part (set d i x) at n ≡ part d at n
part_set_before d i x at n h = ap (take n) (drop-set-lt at d i x h)

-- a list with a part written over: before it, in it and after it
module _ (d : List ℕ) (at : ℕ) (s : List ℕ) (n : ℕ) (le : at + n ≤ length d) (wide : length s ≡ n) where
  front_long : length (take at d) ≡ at
  front_long = length-take at d ∙ omega arith

  both_long : length (take at d ++ take n s) ≡ at + n
  both_long = let f = front_long in let p = length-take n s in length-append (take at d) (take n s) ∙ omega arith

  pub paste_before : (p : ℕ) → p < at → get_or (paste d at s n) p 0 ≡ get_or d p 0
  paste_before p h =
      let f = front_long in let b = both_long in
      let h1 : p < length (take at d ++ take n s) = omega arith in
      let h2 : p < length (take at d) = omega arith in
      get_or_append_left (take at d ++ take n s) (drop (at + n) d) 0 p h1 ∙ get_or_append_left (take at d) (take n s) 0 p h2 ∙ get_or-take at d p 0 h

  pub paste_in : (j : ℕ) → j < n → get_or (paste d at s n) (at + j) 0 ≡ get_or s j 0
  paste_in j h =
      let f = front_long in let b = both_long in
      let h1 : at + j < length (take at d ++ take n s) = omega arith in
      let h2 : at ≤ at + j = omega arith in
      let h3 : at + j - at ≡ j = omega arith in
      get_or_append_left (take at d ++ take n s) (drop (at + n) d) 0 (at + j) h1
      ∙ get_or-append_right (take at d) (take n s) at (at + j) 0 f h2
      ∙ ap (λ (k : ℕ). get_or (take n s) k 0) h3
      ∙ get_or-take n s j 0 h

  pub paste_after : (p : ℕ) → at + n ≤ p → get_or (paste d at s n) p 0 ≡ get_or d p 0
  paste_after p h =
      let h3 : at + n + (p - (at + n)) ≡ p = omega arith in
      get_or-append_right (take at d ++ take n s) (drop (at + n) d) (at + n) p 0 both_long h
      ∙ get_or-drop (at + n) d (p - (at + n)) 0
      ∙ ap (λ (k : ℕ). get_or d k 0) h3

  pub length_paste : length (paste d at s n) ≡ length d
  length_paste = let b = both_long in let k = length-drop (at + n) d in length-append (take at d ++ take n s) (drop (at + n) d) ∙ omega arith

  -- the part is what was written
  pub part_written : part (paste d at s n) at n ≡ s
  part_written = let l = length_paste in part_is (paste d at s n) s at n (omega arith) wide (λ j h. paste_in j h)

  -- a part apart from it stays
  pub part_apart : (a m : ℕ) → a + m ≤ length d → (a + m ≤ at) ⊎ (at + n ≤ a) → part (paste d at s n) a m ≡ part d a m
  part_apart a m h side =
      let l = length_paste in
      same_part (paste d at s n) d a a m (omega arith) h
      (λ j low. ⊎_elim (λ (u : a + m ≤ at). paste_before (a + j) (omega arith)) (λ (u : at + n ≤ a). paste_after (a + j) (omega arith)) side)

take_set : {X : Type 0} (n : ℕ) (l : List X) (i : ℕ) (a : X) → take n (set l i a) ≡ set (take n l) i a
take_set zero l i a = refl
take_set (suc n) [] i a = refl
take_set (suc n) (x ∷ l) zero a = refl
take_set (suc n) (x ∷ l) (suc i) a = ap (λ t. x ∷ t) (take_set n l i a)

-- a place before the part can be set first or last
pub paste_set : {X : Type 0} (d : List X) (at : ℕ) (s : List X) (n i : ℕ) (a : X) → i < at → at ≤ length d → paste (set d i a) at s n ≡ set (paste d at s n) i a
paste_set d at s n i a h le =
    let long : i < length (take at d) = simp length-take (omega arith) in
    let far : i < at + n = omega arith in
    let longer : i < length (take at d ++ take n s) = simp length-append (omega arith) in
    ap (λ t. (t ++ take n s) ++ drop (at + n) (set d i a)) (take_set at d i a)
    ∙ ap (λ t. (set (take at d) i a ++ take n s) ++ t) (drop-set-lt (at + n) d i a far)
    ∙ ap (λ t. t ++ drop (at + n) d) (sym (set-append_left (take at d) (take n s) i a long))
    ∙ sym (set-append_left (take at d ++ take n s) (drop (at + n) d) i a longer)

-- writing what is there leaves the list
pub paste_same : {X : Type 0} (d : List X) (at n : ℕ) (s : List X) → length s ≤ n → take n (drop at d) ≡ s → paste d at s n ≡ d
paste_same d at n s le e =
    ap (λ t. (take at d ++ t) ++ drop (at + n) d) (take_all n s le ∙ sym e)
    ∙ append_assoc (take at d) (take n (drop at d)) (drop (at + n) d)
    ∙ ap (λ t. take at d ++ (take n (drop at d) ++ t)) (sym (drop-drop n at d))
    ∙ ap (λ t. take at d ++ t) (take-append-drop n (drop at d))
    ∙ take-append-drop at d

-- a part written between what is before it and what is after it
pub between_is : (d front back s : List ℕ) (at n : ℕ) → front ≡ take at d → back ≡ drop at d → length s ≡ n → front ++ (s ++ drop n back) ≡ paste d at s n
between_is d front back s at n before after wide =
    ap (λ (t : List ℕ). t ++ (s ++ drop n back)) before
    ∙ ap (λ (t : List ℕ). take at d ++ (s ++ drop n t)) after
    ∙ ap (λ (t : List ℕ). take at d ++ (s ++ t)) (drop-drop n at d)
    ∙ sym (append_assoc (take at d) s (drop (at + n) d))
    ∙ ap (λ (t : List ℕ). (take at d ++ t) ++ drop (at + n) d) (sym (take_all n s (omega arith)))
