-- The check of a block by whole rows.
use Rattle.std.proofs.Common.{◌≡◌, ℕ, zero, suc, ◌+◌, ◌*◌, ◌<◌, ◌≤◌, List, length, get_or, take, drop, replicate, sym, refl, ap, ◌∙◌, arith, length-take}
use lib.Bits.{bit_xor, xor_zero_r, xor_comm, xor_assoc}
use lib.Lanes.{zip2}
use Rattle.std.proofs.lemmas.Simd.{length-zip2, get_or-zip2}
use Rattle.std.proofs.lemmas.List.{ext_get_or, take_all}
use Rattle.values.specs.Padded.{get_or_zeros}
use Rattle.image.specs.Blocks.{xor_of, xors, checks, row_of, row_xors}
use Rattle.image.proofs.Parts.{length_part, get_d_part}
use Rattle.image.proofs.Chunks.{none_mixed, one_mixed}

-- two more bytes go one to each half
regroup : (h a c x y : ℕ) → bit_xor (bit_xor (bit_xor (bit_xor h a) c) x) y ≡ bit_xor (bit_xor h (bit_xor a x)) (bit_xor c y)
regroup h a c x y =
    ap (λ (t : ℕ). bit_xor t y) (xor_assoc (bit_xor h a) c x ∙ ap (bit_xor (bit_xor h a)) (xor_comm c x) ∙ sym (xor_assoc (bit_xor h a) x c) ∙ ap (λ (t : ℕ). bit_xor t c) (xor_assoc h a x))
    ∙ xor_assoc (bit_xor h (bit_xor a x)) c y

-- check byte k so far stands at place k
at_xors : (b : List ℕ) (m k : ℕ) → k < 8 → get_or (xors b m) k 0 ≡ xor_of b k m
at_xors b m zero h = refl
at_xors b m (suc zero) h = refl
at_xors b m (suc (suc zero)) h = refl
at_xors b m (suc (suc (suc zero))) h = refl
at_xors b m (suc (suc (suc (suc zero)))) h = refl
at_xors b m (suc (suc (suc (suc (suc zero))))) h = refl
at_xors b m (suc (suc (suc (suc (suc (suc zero)))))) h = refl
at_xors b m (suc (suc (suc (suc (suc (suc (suc zero))))))) h = refl
at_xors b m (suc (suc (suc (suc (suc (suc (suc (suc k)))))))) h = absurd (omega arith)

module _ (b : List ℕ) (long : length b ≡ 512) where
  row_long : (m : ℕ) → m < 31 → length (row_of b m) ≡ 16
  row_long m h = length_part b (8 + 16 * m) 16 (omega arith)

  pub length_row_xors : (m : ℕ) → m ≤ 31 → length (row_xors b m) ≡ 16
  length_row_xors zero h = ap length (none_mixed b)
  length_row_xors (suc m) h = let l = length_row_xors m (omega arith) in ap length (one_mixed b m) ∙ length-zip2 bit_xor (row_xors b m) (row_of b m) (l ∙ sym (row_long m (omega arith))) ∙ l

  -- one more row
  lane_more : (m k : ℕ) → m < 31 → k < 16 → get_or (row_xors b (suc m)) k 0 ≡ bit_xor (get_or (row_xors b m) k 0) (get_or b (8 + 16 * m + k) 0)
  lane_more m k h g =
      let l = length_row_xors m (omega arith) in let r = row_long m h in
      ap (λ (t : List ℕ). get_or t k 0) (one_mixed b m) ∙ get_or-zip2 bit_xor (row_xors b m) (row_of b m) k 0 0 0 (omega arith) (omega arith) ∙ ap (bit_xor (get_or (row_xors b m) k 0)) (get_d_part b (8 + 16 * m) 16 k g)

  -- a byte of the check: of the header and of both halves of m rows
  byte : (k m : ℕ) → k < 8 → m ≤ 31 → xor_of b k (2 * m + 1) ≡ bit_xor (bit_xor (get_or b k 0) (get_or (row_xors b m) k 0)) (get_or (row_xors b m) (8 + k) 0)
  byte k zero h g =
      let e : 0 + k ≡ k = omega arith in
      ap (λ (i : ℕ). get_or b i 0) e
      ∙ sym (ap (bit_xor (bit_xor (get_or b k 0) (get_or (replicate 16 0) k 0))) (get_or_zeros 16 (8 + k)) ∙ xor_zero_r _ ∙ ap (bit_xor (get_or b k 0)) (get_or_zeros 16 k) ∙ xor_zero_r _)
      ∙ ap (λ (t : List ℕ). bit_xor (bit_xor (get_or b k 0) (get_or t k 0)) (get_or t (8 + k) 0)) (sym (none_mixed b))
  byte k (suc m) h g =
      let n : 2 * suc m + 1 ≡ suc (suc (2 * m + 1)) = omega arith in
      let low : 8 * (2 * m + 1) + k ≡ 8 + 16 * m + k = omega arith in
      let high : 8 * suc (2 * m + 1) + k ≡ 8 + 16 * m + (8 + k) = omega arith in
      let e = byte k m h (omega arith) in
      let x = ap (λ (i : ℕ). get_or b i 0) low in let y = ap (λ (i : ℕ). get_or b i 0) high in
      let one = lane_more m k (omega arith) (omega arith) in let two = lane_more m (8 + k) (omega arith) (omega arith) in
      let r = regroup (get_or b k 0) (get_or (row_xors b m) k 0) (get_or (row_xors b m) (8 + k) 0) (get_or b (8 + 16 * m + k) 0) (get_or b (8 + 16 * m + (8 + k)) 0) in
      ap (xor_of b k) n ∙ cc

  -- the header and both halves of the rows make the check
  made : (rows : List ℕ) → rows ≡ row_xors b 31 → zip2 bit_xor (zip2 bit_xor (take 8 b) (take 8 rows)) (take 8 (drop 8 rows)) ≡ checks b
  unfolding checks
  made rows e =
      let l : length rows ≡ 16 = ap length e ∙ length_row_xors 31 (omega arith) in
      let l0 : length (take 8 b) ≡ 8 = length_part b 0 8 (omega arith) in
      let l1 : length (take 8 rows) ≡ 8 = length_part rows 0 8 (omega arith) in
      let l2 : length (take 8 (drop 8 rows)) ≡ 8 = length_part rows 8 8 (omega arith) in
      let l01 : length (zip2 bit_xor (take 8 b) (take 8 rows)) ≡ 8 = length-zip2 bit_xor (take 8 b) (take 8 rows) (l0 ∙ sym l1) ∙ l0 in
      let l012 : length (zip2 bit_xor (zip2 bit_xor (take 8 b) (take 8 rows)) (take 8 (drop 8 rows))) ≡ 8 = length-zip2 bit_xor (zip2 bit_xor (take 8 b) (take 8 rows)) (take 8 (drop 8 rows)) (l01 ∙ sym l2) ∙ l01 in
      ext_get_or 0 _ _ l012
      (λ k h.
      let small : k < 8 = omega arith in
      let z : 0 + k ≡ k = omega arith in
      let head = get_d_part b 0 8 k small ∙ ap (λ (i : ℕ). get_or b i 0) z in
      let low = get_d_part rows 0 8 k small ∙ ap (λ (i : ℕ). get_or rows i 0) z in
      let high = get_d_part rows 8 8 k small in
      let outer = get_or-zip2 bit_xor (zip2 bit_xor (take 8 b) (take 8 rows)) (take 8 (drop 8 rows)) k 0 0 0 (omega arith) (omega arith) in
      let inner = get_or-zip2 bit_xor (take 8 b) (take 8 rows) k 0 0 0 (omega arith) (omega arith) in
      let same = byte k 31 small (omega arith) in
      let at = at_xors b 63 k small in
      let lo : get_or rows k 0 ≡ get_or (row_xors b 31) k 0 = ap (λ (t : List ℕ). get_or t k 0) e in
      let hi : get_or rows (8 + k) 0 ≡ get_or (row_xors b 31) (8 + k) 0 = ap (λ (t : List ℕ). get_or t (8 + k) 0) e in
      outer ∙ ap (λ (t : ℕ). bit_xor t (get_or (take 8 (drop 8 rows)) k 0)) inner
      ∙ ap (λ (t : ℕ). bit_xor (bit_xor t (get_or (take 8 rows) k 0)) (get_or (take 8 (drop 8 rows)) k 0)) head
      ∙ ap (λ (t : ℕ). bit_xor (bit_xor (get_or b k 0) t) (get_or (take 8 (drop 8 rows)) k 0)) (low ∙ lo)
      ∙ ap (bit_xor (bit_xor (get_or b k 0) (get_or (row_xors b 31) k 0))) (high ∙ hi)
      ∙ sym same ∙ sym at)

  pub checks_are : (rows : List ℕ) → rows ≡ row_xors b 31 → zip2 bit_xor (zip2 bit_xor (take 8 b) (take 8 rows)) (take 8 (take 8 (drop 8 rows))) ≡ checks b
  checks_are rows e =
      let l = length-take 8 (drop 8 rows) in
      ap (zip2 bit_xor (zip2 bit_xor (take 8 b) (take 8 rows))) (take_all 8 (take 8 (drop 8 rows)) (omega arith)) ∙ made rows e
