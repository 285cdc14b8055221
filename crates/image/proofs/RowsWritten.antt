-- The rows of an image, and what writing one of them does to each.
use Rattle.std.proofs.Common.{◌≡◌, ℕ, ◌+◌, ◌*◌, ◌/◌, ◌%◌, ◌<◌, ◌≤◌, Bool, cond, List, ◌++◌, map, length, get_or, take, drop, set, Some, None, Ok, Result, sym, ap, ◌∙◌, inl, inr, ⊎_elim, arith, length-set, le-ltb, lt-ltb}
use Rattle.std.specs.List.{range_with_len, slice_get}
use Rattle.std.proofs.lemmas.List.FromFn.{length-map-range_with_len, get_or-map-range_with_len}
use Rattle.std.proofs.lemmas.List.{same_lists, get_or-set_same, get_or-set_other, set_past}
use Rattle.std.proofs.lemmas.Option.{slice_get-get_or, slice_get_past}
use Rattle.std.proofs.lemmas.Bool.{cases_lt, cases_eq}
use Rattle.image.specs.Blocks.{closed, row_of, with_row}
use Rattle.image.specs.Images.{row_count, block_of, with_block, row_bytes, or_home, image_rows, row_written, image_written}
use Rattle.image.proofs.Parts.{length_part, part_written, part_apart, length_paste, between_is}
use Rattle.image.proofs.Blocks.{length_closed, closed_row, length_with_row, row_written_is, row_written_other}

-- an image with another block q
module _ (image : List ℕ) (q : ℕ) (b : List ℕ) (room : 512 * q + 512 ≤ length image) (wide : length b ≡ 512) where
  pub length_with_block : length (with_block image q b) ≡ length image
  length_with_block = length_paste image (512 * q) b 512 room wide

  pub block_written_is : block_of (with_block image q b) q ≡ b
  block_written_is = part_written image (512 * q) b 512 room wide

  pub block_written_other : (p : ℕ) → 512 * p + 512 ≤ length image → (p ≡ q → ⊥) → block_of (with_block image q b) p ≡ block_of image p
  block_written_other p h ne =
      part_apart image (512 * q) b 512 room wide (512 * p) 512 h
      (⊎_elim (λ (u : p < q). inl (omega arith)) (λ (u : q ≤ p). inr (omega (arith, ne))) (cases_lt p q))

-- an image with row n written
module _ (image : List ℕ) (n : ℕ) (bytes : List ℕ) (inside : n < row_count (length image)) (wide : length bytes ≡ 16) where
  pub block_room : 512 * (n / 31) + 512 ≤ length image
  block_room = omega arith

  pub low : n % 31 < 31
  low = omega arith

  pub block_long : length (block_of image (n / 31)) ≡ 512
  block_long = length_part image (512 * (n / 31)) 512 block_room

  pub row_long : length (with_row (block_of image (n / 31)) (n % 31) bytes) ≡ 512
  row_long = length_with_row (block_of image (n / 31)) (n % 31) bytes block_long low wide

  pub closed_long : length (closed (with_row (block_of image (n / 31)) (n % 31) bytes)) ≡ 512
  closed_long = length_closed (with_row (block_of image (n / 31)) (n % 31) bytes) row_long

  pub length_row_written : length (row_written image n bytes) ≡ length image
  length_row_written = length_with_block image (n / 31) (closed (with_row (block_of image (n / 31)) (n % 31) bytes)) block_room closed_long

  -- its block, and the other blocks
  pub written_block : block_of (row_written image n bytes) (n / 31) ≡ closed (with_row (block_of image (n / 31)) (n % 31) bytes)
  written_block = block_written_is image (n / 31) (closed (with_row (block_of image (n / 31)) (n % 31) bytes)) block_room closed_long

  pub other_block : (q : ℕ) → 512 * q + 512 ≤ length image → (q ≡ n / 31 → ⊥) → block_of (row_written image n bytes) q ≡ block_of image q
  other_block q h ne = block_written_other image (n / 31) (closed (with_row (block_of image (n / 31)) (n % 31) bytes)) block_room closed_long q h ne

  -- a row of its block, after the write
  pub written_block_row : (k : ℕ) → k < 31 → row_of (block_of (row_written image n bytes) (n / 31)) k ≡ row_of (with_row (block_of image (n / 31)) (n % 31) bytes) k
  written_block_row k h = ap (λ t. row_of t k) written_block ∙ closed_row (with_row (block_of image (n / 31)) (n % 31) bytes) row_long k h

  pub row_is_written : row_bytes (row_written image n bytes) n ≡ bytes
  row_is_written = written_block_row (n % 31) low ∙ row_written_is (block_of image (n / 31)) (n % 31) bytes block_long low wide

  pub row_stays : (m : ℕ) → m < row_count (length image) → (m ≡ n → ⊥) → row_bytes (row_written image n bytes) m ≡ row_bytes image m
  row_stays m h ne =
      ⊎_elim
      (λ (same : m / 31 ≡ n / 31).
      let apart : m % 31 ≡ n % 31 → ⊥ = λ e. ne (omega arith) in
      ap (λ (q : ℕ). row_of (block_of (row_written image n bytes) q) (m % 31)) same
      ∙ written_block_row (m % 31) (omega arith)
      ∙ row_written_other (block_of image (n / 31)) (n % 31) bytes block_long low wide (m % 31) (omega arith) apart
      ∙ ap (λ (q : ℕ). row_of (block_of image q) (m % 31)) (sym same))
      (λ (apart : m / 31 ≡ n / 31 → ⊥). ap (λ t. row_of t (m % 31)) (other_block (m / 31) (omega arith) apart))
      (cases_eq (m / 31) (n / 31))

-- the write through a block that is lent
pub block_closed : (image : List ℕ) (n : ℕ) (row front back block block' : List ℕ) → n < row_count (length image) → length row ≡ 16
    → front ≡ take (512 * (n / 31)) image → back ≡ drop (512 * (n / 31)) image → block ≡ take 512 back → block' ≡ closed (with_row block (n % 31) row)
    → front ++ (block' ++ drop 512 back) ≡ row_written image n row
block_closed image n row front back block block' inside wide before after first e =
    let there : block ≡ block_of image (n / 31) = first ∙ ap (take 512) after in
    let now : block' ≡ closed (with_row (block_of image (n / 31)) (n % 31) row) = e ∙ ap (λ (b : List ℕ). closed (with_row b (n % 31) row)) there in
    between_is image front back block' (512 * (n / 31)) 512 before after (ap length now ∙ closed_long image n row inside wide) ∙ ap (with_block image (n / 31)) now

-- a list made from a function of the place, written at one place
set_counted : {X : Type 0} (f g : ℕ → X) (n i : ℕ) (y : X) → i < n → g i ≡ y → ((k : ℕ) → k < n → (k ≡ i → ⊥) → g k ≡ f k) → map g (range_with_len 0 n) ≡ set (map f (range_with_len 0 n)) i y
set_counted f g n i y h at other =
    same_lists _ _ (length-map-range_with_len g 0 n ∙ sym (length-set _ i y ∙ length-map-range_with_len f 0 n))
    (λ k d low.
    let l = length-map-range_with_len g 0 n in
    let lf = length-map-range_with_len f 0 n in
    let kn : k < n = omega arith in
    let inn : i < length (map f (range_with_len 0 n)) = omega arith in
    let e : 0 + k ≡ k = omega arith in
    get_or-map-range_with_len g 0 n k k d kn e ∙
    ⊎_elim
    (λ (s : k ≡ i). ap g s ∙ at ∙ sym (ap (λ (j : ℕ). get_or (set (map f (range_with_len 0 n)) i y) j d) s ∙ get_or-set_same _ i y d inn))
    (λ (ne : k ≡ i → ⊥). other k kn ne ∙ sym (get_or-set_other (map f (range_with_len 0 n)) i k y d ne ∙ get_or-map-range_with_len f 0 n k k d kn e))
    (cases_eq k i))

-- which bytes a write leaves, inside and past the rows
pub written_inside : (image : List ℕ) (n : ℕ) (bytes : List ℕ) → n < row_count (length image) → row_written image n bytes ≡ image_written image n bytes
written_inside image n bytes h = sym (ap (λ (b : Bool). cond b (row_written image n bytes) image) (lt-ltb n (row_count (length image)) h))

pub written_past : (image : List ℕ) (n : ℕ) (bytes : List ℕ) → row_count (length image) ≤ n → image ≡ image_written image n bytes
written_past image n bytes h = sym (ap (λ (b : Bool). cond b (row_written image n bytes) image) (le-ltb n (row_count (length image)) h))

-- the values of an image
module _ {V : Type 0} (home : V) (unpacked : List ℕ → Result V ℕ) where
  pub rows_long : (image : List ℕ) → row_count (length image) ≡ length (image_rows home unpacked image)
  rows_long image = sym (length-map-range_with_len _ 0 (row_count (length image)))

  pub rows_below : (image : List ℕ) (n : ℕ) → n < row_count (length image) → n < length (image_rows home unpacked image)
  rows_below image n h = let l = rows_long image in omega arith

  pub rows_past : (image : List ℕ) (n : ℕ) → row_count (length image) ≤ n → length (image_rows home unpacked image) ≤ n
  rows_past image n h = let l = rows_long image in omega arith

  pub row_value : (image : List ℕ) (n : ℕ) (v : V) → n < row_count (length image) → v ≡ or_home home (unpacked (row_bytes image n)) → Some v ≡ slice_get (image_rows home unpacked image) n
  row_value image n v h e =
      sym (slice_get-get_or (image_rows home unpacked image) n v (rows_below image n h)
      ∙ ap Some (get_or-map-range_with_len (λ k. or_home home (unpacked (row_bytes image k))) 0 (row_count (length image)) n n v h (omega arith) ∙ sym e))

  pub no_row : (image : List ℕ) (n : ℕ) → row_count (length image) ≤ n → None ≡ slice_get (image_rows home unpacked image) n
  no_row image n h = sym (slice_get_past _ n (rows_past image n h))

  pub rows_written : (image : List ℕ) (n : ℕ) (bytes : List ℕ) (v : V) → n < row_count (length image) → length bytes ≡ 16 → unpacked bytes ≡ Ok v → image_rows home unpacked (row_written image n bytes) ≡ set (image_rows home unpacked image) n v
  rows_written image n bytes v h wide e =
      ap (λ (k : ℕ). map (λ i. or_home home (unpacked (row_bytes (row_written image n bytes) i))) (range_with_len 0 (row_count k))) (length_row_written image n bytes h wide)
      ∙ set_counted (λ i. or_home home (unpacked (row_bytes image i))) (λ i. or_home home (unpacked (row_bytes (row_written image n bytes) i))) (row_count (length image)) n v h
      (ap (λ (t : List ℕ). or_home home (unpacked t)) (row_is_written image n bytes h wide) ∙ ap (or_home home) e)
      (λ k hk ne. ap (λ (t : List ℕ). or_home home (unpacked t)) (row_stays image n bytes h wide k hk ne))

  pub rows_stay : (image : List ℕ) (n : ℕ) (v : V) → row_count (length image) ≤ n → image_rows home unpacked image ≡ set (image_rows home unpacked image) n v
  rows_stay image n v h = sym (set_past _ n v (rows_past image n h))
