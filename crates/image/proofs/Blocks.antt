-- A block as it is written and closed: its check, its mark, and the rows that stay.
use Rattle.std.proofs.Common.{◌≡◌, ℕ, zero, suc, ◌+◌, ◌*◌, ◌<◌, ◌≤◌, List, length, get_or, set, sym, refl, ap, ◌∙◌, inl, inr, ⊎_elim, arith, length-set}
use lib.Bits.{bit_xor}
use Rattle.std.proofs.lemmas.Bool.{cases_lt}
use Rattle.std.proofs.lemmas.List.{get_or-set_same, get_or-set_other, set-set}
use Rattle.image.specs.Blocks.{part, xor_of, xors, checks, checked, closed, row_of, with_row}
use Rattle.image.proofs.Parts.{part_written, part_apart, part_set_before, paste_before, length_paste, paste_set, paste_same}

pub length_checks : (b : List ℕ) → length (checks b) ≡ 8
unfolding checks
length_checks b = refl

-- the check looks at the bytes before it alone
xor_of_same : (b c : List ℕ) (k m : ℕ) → ((j : ℕ) → j < m → get_or b (8 * j + k) 0 ≡ get_or c (8 * j + k) 0) → xor_of b k m ≡ xor_of c k m
xor_of_same b c k zero each = refl
xor_of_same b c k (suc m) each =
    ap (λ (x : ℕ). bit_xor x (get_or b (8 * m + k) 0)) (xor_of_same b c k m (λ j h. each j (omega arith)))
    ∙ ap (bit_xor (xor_of c k m)) (each m (omega arith))

pub checks_same : (b c : List ℕ) → ((i : ℕ) → i < 504 → get_or b i 0 ≡ get_or c i 0) → checks b ≡ checks c
unfolding checks
checks_same b c each = all (λ k h. xor_of_same b c k 63 (λ j g. each (8 * j + k) (omega arith)))
  where
    all : ((k : ℕ) → k < 8 → xor_of b k 63 ≡ xor_of c k 63) → xors b 63 ≡ xors c 63
    all e =
        let e0 = e 0 (omega arith) in let e1 = e 1 (omega arith) in let e2 = e 2 (omega arith) in let e3 = e 3 (omega arith) in
        let e4 = e 4 (omega arith) in let e5 = e 5 (omega arith) in let e6 = e 6 (omega arith) in let e7 = e 7 (omega arith) in
        cc

-- a closed block
module _ (b : List ℕ) (long : length b ≡ 512) where
  marked_long : length (set b 3 0) ≡ 512
  marked_long = length-set b 3 0 ∙ long

  room : 504 + 8 ≤ length (set b 3 0)
  room = let l = marked_long in omega arith

  pub length_closed : length (closed b) ≡ 512
  length_closed = length_paste (set b 3 0) 504 (checks (set b 3 0)) 8 room (length_checks (set b 3 0)) ∙ marked_long

  -- its check is written
  pub closed_check : part (closed b) 504 8 ≡ checks (closed b)
  closed_check =
      part_written (set b 3 0) 504 (checks (set b 3 0)) 8 room (length_checks (set b 3 0))
      ∙ checks_same (set b 3 0) (closed b) (λ i h. sym (paste_before (set b 3 0) 504 (checks (set b 3 0)) 8 room (length_checks (set b 3 0)) i h))

  -- its mark is 0
  pub closed_mark : get_or (closed b) 3 0 ≡ 0
  closed_mark =
      let h : 3 < length b = omega arith in
      paste_before (set b 3 0) 504 (checks (set b 3 0)) 8 room (length_checks (set b 3 0)) 3 (omega arith) ∙ get_or-set_same b 3 0 0 h

  -- what else stands before the check is as it was
  pub closed_other : (i : ℕ) → i < 504 → (i ≡ 3 → ⊥) → get_or (closed b) i 0 ≡ get_or b i 0
  closed_other i h ne = paste_before (set b 3 0) 504 (checks (set b 3 0)) 8 room (length_checks (set b 3 0)) i h ∙ get_or-set_other b 3 i 0 0 ne

  pub closed_row : (k : ℕ) → k < 31 → row_of (closed b) k ≡ row_of b k
  closed_row k h =
      let l = marked_long in
      part_apart (set b 3 0) 504 (checks (set b 3 0)) 8 room (length_checks (set b 3 0)) (8 + 16 * k) 16 (omega arith) (inl (omega arith))
      ∙ part_set_before b 3 0 (8 + 16 * k) 16 (omega arith)

-- a block with row k written
module _ (b : List ℕ) (k : ℕ) (bytes : List ℕ) (long : length b ≡ 512) (low : k < 31) (wide : length bytes ≡ 16) where
  row_room : 8 + 16 * k + 16 ≤ length b
  row_room = omega arith

  pub length_with_row : length (with_row b k bytes) ≡ 512
  length_with_row = length_paste b (8 + 16 * k) bytes 16 row_room wide ∙ long

  pub row_written_is : row_of (with_row b k bytes) k ≡ bytes
  row_written_is = part_written b (8 + 16 * k) bytes 16 row_room wide

  pub row_written_other : (m : ℕ) → m < 31 → (m ≡ k → ⊥) → row_of (with_row b k bytes) m ≡ row_of b m
  row_written_other m h ne =
      part_apart b (8 + 16 * k) bytes 16 row_room wide (8 + 16 * m) 16 (omega arith)
      (⊎_elim (λ (u : m < k). inl (omega arith)) (λ (u : k ≤ m). inr (omega (arith, ne))) (cases_lt m k))

  pub header_stays : (i : ℕ) → i < 8 → get_or (with_row b k bytes) i 0 ≡ get_or b i 0
  header_stays i h = paste_before b (8 + 16 * k) bytes 16 row_room wide i (omega arith)

  -- the mark before the write does not matter
  pub closed_marked : closed (with_row (set b 3 1) k bytes) ≡ closed (with_row b k bytes)
  closed_marked =
      ap checked (ap (λ (t : List ℕ). set t 3 0) (paste_set b (8 + 16 * k) bytes 16 3 1 (omega arith) (omega arith)) ∙ set-set (with_row b k bytes) 3 1 0)

  -- nor whether the row is written where it is there already
  pub closed_held : row_of (set b 3 1) k ≡ bytes → closed (set b 3 1) ≡ closed (with_row b k bytes)
  closed_held e = ap closed (sym (paste_same (set b 3 1) (8 + 16 * k) 16 bytes (omega arith) e)) ∙ closed_marked
