-- A list as chunks of one width: the blocks of an image, and the rows of a block.
use Rattle.std.proofs.Common.{◌≡◌, ℕ, zero, suc, ◌+◌, ◌*◌, ◌/◌, ◌<◌, List, [], map, length, get_or, take, drop, replicate, add-one, sym, refl, ap, ◌∙◌, arith}
use Rattle.std.specs.List.{fold, range_with_len}
use Rattle.std.specs.Simd.{first_chunks}
use lib.Bits.{bit_xor}
use lib.Lanes.{zip2}
use Rattle.std.proofs.lemmas.List.{drop-drop}
use Rattle.std.proofs.lemmas.List.FromFn.{get_or-map-range_with_len, map-range_with_len_more, fill_by_all}
use Rattle.std.proofs.lemmas.List.Sums.{fold_push}
use Rattle.image.specs.Blocks.{part, row_of, first_rows, row_xors}
use Rattle.image.specs.Images.{block_of}
use Rattle.image.proofs.Parts.{part_of_part}

length_chunks : (n m : ℕ) (xs : List ℕ) → length (first_chunks n m xs) ≡ m
length_chunks n zero xs = refl
length_chunks n (suc m) xs = ap suc (length_chunks n m (drop n xs))

-- a chunk is a part
chunk_is : (n m i : ℕ) (xs : List ℕ) → i < m → get_or (first_chunks n m xs) i [] ≡ part xs (n * i) n
chunk_is n zero i xs h = absurd (omega arith)
chunk_is n (suc m) zero xs h = let z : 0 ≡ n * 0 = omega arith in ap (λ (at : ℕ). part xs at n) z
chunk_is n (suc m) (suc i) xs h =
    let e : n + n * i ≡ n * suc i = omega arith in
    chunk_is n m i (drop n xs) (omega arith) ∙ ap (take n) (drop-drop (n * i) n xs) ∙ ap (λ (at : ℕ). part xs at n) e

-- a block of an image that is cut into blocks
pub block_at : (image : List ℕ) (blocks : List (List ℕ)) (q : ℕ) → blocks ≡ first_chunks 512 (length image / 512) image → q < length image / 512 → get_or blocks q [] ≡ block_of image q
block_at image blocks q e h = ap (λ (t : List (List ℕ)). get_or t q []) e ∙ chunk_is 512 (length image / 512) q image h

-- the rows of a block that is cut into them, and one of these
pub rows_are : (b : List ℕ) (m : ℕ) → length b ≡ 512 → m ≡ 31 → first_chunks 16 m (part b 8 496) ≡ first_rows b 31
unfolding first_rows
rows_are b m long e =
    fill_by_all (row_of b) _ 31 [] (length_chunks 16 m (part b 8 496) ∙ e)
    (λ k h. chunk_is 16 m k (part b 8 496) (omega arith) ∙ part_of_part b 8 496 (16 * k) 16 (omega arith) (omega arith))

pub row_at : (b : List ℕ) (rows : List (List ℕ)) (k : ℕ) → rows ≡ first_rows b 31 → k < 31 → get_or rows k [] ≡ row_of b k
unfolding first_rows
row_at b rows k e h = ap (λ (t : List (List ℕ)). get_or t k []) e ∙ get_or-map-range_with_len (row_of b) 0 31 k k [] h (omega arith)

-- no row mixed, and one more
pub none_mixed : (b : List ℕ) → row_xors b 0 ≡ replicate 16 0
unfolding first_rows
none_mixed b = refl

pub one_mixed : (b : List ℕ) (m : ℕ) → row_xors b (suc m) ≡ zip2 bit_xor (row_xors b m) (row_of b m)
unfolding first_rows
one_mixed b m =
    ap (λ (k : ℕ). row_xors b k) (sym (add-one m))
    ∙ ap (fold (zip2 bit_xor) (replicate 16 0)) (map-range_with_len_more (row_of b) 0 m m (omega arith))
    ∙ fold_push (zip2 bit_xor) (replicate 16 0) (map (row_of b) (range_with_len 0 m)) (row_of b m)
