-- A block of 512 bytes: number 0-1, kind 2, mark 3, zeros 4-7, 31 rows of 16 bytes from 8 on, check 504-511.
use Rattle.std.specs.Prelude.{ℕ, zero, suc, ◌+◌, ◌*◌, List, [], ◌∷◌, map, take, drop, replicate, bit_xor, slice_index, slice_set}
use Rattle.std.specs.List.{fold, range_with_len}
use Rattle.std.specs.Simd.Lanes.{zip2}
use Rattle.std.proofs.Math.Seq.{paste}

-- the n bytes from place `at` on
abbrev pub part : List ℕ → ℕ → ℕ → List ℕ
part bs at n = take n (drop at bs)

-- the exclusive or of the first m bytes whose position leaves k when divided by 8
abbrev pub xor_of : List ℕ → ℕ → ℕ → ℕ
xor_of b k zero = 0
xor_of b k (suc m) = bit_xor (xor_of b k m) (slice_index b (8 * m + k))

abbrev pub xors : List ℕ → ℕ → List ℕ
xors b m = xor_of b 0 m ∷ xor_of b 1 m ∷ xor_of b 2 m ∷ xor_of b 3 m ∷ xor_of b 4 m ∷ xor_of b 5 m ∷ xor_of b 6 m ∷ xor_of b 7 m ∷ []

-- the eight check bytes, each over the 63 such bytes before the check
unfoldable pub checks : List ℕ → List ℕ
checks b = xors b 63

-- the block with its check written
abbrev pub checked : List ℕ → List ℕ
checked b = paste b 504 (checks b) 8

-- the block with the mark 0 and its check written
abbrev pub closed : List ℕ → List ℕ
closed b = checked (slice_set b 3 0)

-- the 16 bytes of row k
abbrev pub row_of : List ℕ → ℕ → List ℕ
row_of b k = part b (8 + 16 * k) 16

-- the first m rows, row 0 first; a block has 31
unfoldable pub first_rows : List ℕ → ℕ → List (List ℕ)
first_rows b m = map (row_of b) (range_with_len 0 m)

-- the exclusive or of the first m rows, byte by byte
abbrev pub row_xors : List ℕ → ℕ → List ℕ
row_xors b m = fold (zip2 bit_xor) (replicate 16 0) (first_rows b m)

-- the block with other bytes in row k
abbrev pub with_row : List ℕ → ℕ → List ℕ → List ℕ
with_row b k bytes = paste b (8 + 16 * k) bytes 16
