-- An image as a list of rows: 31 for each whole block, at most 1,984.
use Rattle.std.specs.Prelude.{ℕ, ◌*◌, ◌/◌, ◌%◌, min, cond, List, map, length, Ok, Err, Result, nat_lt}
use Rattle.std.proofs.Math.Seq.{paste}
use Rattle.std.specs.List.{range_with_len}
use Rattle.image.specs.Blocks.{part, row_of, with_row, closed}

abbrev pub row_count : ℕ → ℕ
row_count len = min (31 * (len / 512)) 1984

-- the 512 bytes of block q
abbrev pub block_of : List ℕ → ℕ → List ℕ
block_of image q = part image (512 * q) 512

-- the image with another block q
abbrev pub with_block : List ℕ → ℕ → List ℕ → List ℕ
with_block image q b = paste image (512 * q) b 512

-- the 16 bytes of row n
abbrev pub row_bytes : List ℕ → ℕ → List ℕ
row_bytes image n = row_of (block_of image (n / 31)) (n % 31)

-- the value, or home
abbrev pub or_home : {V : Type 0} → V → Result V ℕ → V
or_home home (Ok v) = v
or_home home (Err e) = home

-- the values of an image, read by a kind's rule; a row that does not unpack reads as home
abbrev pub image_rows : {V : Type 0} → V → (List ℕ → Result V ℕ) → List ℕ → List V
image_rows home unpacked image = map (λ n. or_home home (unpacked (row_bytes image n))) (range_with_len 0 (row_count (length image)))

-- the image after row n was written: the row's block has the bytes there and is closed, and nothing else changes
abbrev pub row_written : List ℕ → ℕ → List ℕ → List ℕ
row_written image n bytes = with_block image (n / 31) (closed (with_row (block_of image (n / 31)) (n % 31) bytes))

-- the same, or the image as it was where it has no row n
abbrev pub image_written : List ℕ → ℕ → List ℕ → List ℕ
image_written image n bytes = cond (nat_lt n (row_count (length image))) (row_written image n bytes) image
