-- What a sound image and a new image are, with no word of the order in which an image is checked.
use Rattle.std.specs.Prelude.{◌≡◌, ℕ, ◌*◌, ◌/◌, ◌<◌, ◌≤◌, true, List, length, is_ok, Result, slice_index}
use Rattle.values.specs.Packing.{number_at}
use Rattle.image.specs.Blocks.{part, checks, row_of}
use Rattle.image.specs.Images.{block_of}

-- a block whose number is q, of a kind, with no mark, whose check fits, and whose rows are as asked
pub record BlockOf (kind : ℕ) (Row : List ℕ → Type 0) (q : ℕ) (b : List ℕ) : Type 0 where
  pub number : number_at b 0 ≡ q
  pub of_kind : slice_index b 2 ≡ kind
  pub no_mark : slice_index b 3 ≡ 0
  pub zeros : (i : ℕ) → 4 ≤ i → i < 8 → slice_index b i ≡ 0
  pub check : part b 504 8 ≡ checks b
  pub rows : (k : ℕ) → k < 31 → Row (row_of b k)

-- 1 to 64 such blocks, numbered from 0, and no more bytes
pub record ImageOf (kind : ℕ) (Row : List ℕ → Type 0) (image : List ℕ) : Type 0 where
  pub whole : length image ≡ 512 * (length image / 512)
  pub some_blocks : 1 ≤ length image / 512
  pub not_too_many : length image / 512 ≤ 64
  pub blocks : (q : ℕ) → q < length image / 512 → BlockOf kind Row q (block_of image q)

-- every row unpacks
abbrev pub Sound : {V : Type 0} → ℕ → (List ℕ → Result V ℕ) → List ℕ → Type 0
Sound kind unpacked = ImageOf kind (λ bytes. is_ok (unpacked bytes) ≡ true)

-- every row has these bytes; with the rest of ImageOf that says every byte of the image
abbrev pub Filled : ℕ → List ℕ → List ℕ → Type 0
Filled kind row = ImageOf kind (λ bytes. bytes ≡ row)
