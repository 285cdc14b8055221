-- How every kind packs a value into 16 bytes: its parts first, then zeros. Numbers are little-endian.
use Rattle.std.specs.Option.{option_or}
use Rattle.std.specs.Prelude.{◌≡◌, ℕ, ◌+◌, ◌-◌, ◌*◌, ◌<◌, cond, List, [], ◌∷◌, ◌++◌, length, take, drop, replicate, Some, None, Ok, Err, Option, Result, ◌==◌, slice_index}

-- 16 numbers, each below 256
abbrev pub Bytes16 : List ℕ → Type 0
Bytes16 bs = (length bs ≡ 16) × ((k : ℕ) → slice_index bs k < 256)

-- k is a place among the 16, and before it the bytes are those of some value
abbrev pub BeginsAs : {V : Type 0} → (V → List ℕ) → List ℕ → ℕ → Type 0
BeginsAs {V} packed bs k = (k < 16) × ((v : V) × (take k (packed v) ≡ take k bs))

-- the number of two bytes whose low one stands at k
abbrev pub number_at : List ℕ → ℕ → ℕ
number_at bs k = slice_index bs k + slice_index bs (k + 1) * 256

-- the place of the first number that is not 0, where the list begins at place k
abbrev pub first_nonzero : List ℕ → ℕ → Option ℕ
first_nonzero [] k = None
first_nonzero (b ∷ bs) k = cond (b == 0) (first_nonzero bs (k + 1)) (Some k)

-- the value, unless a place offends
abbrev pub value_unless : {V : Type 0} → Option ℕ → V → Result V ℕ
value_unless (Some k) v = Err k
value_unless None v = Ok v

-- n bytes of parts, and zeros
abbrev pub padded : ℕ → List ℕ → List ℕ
padded n parts = parts ++ replicate (16 - n) 0

-- the value made of n bytes of parts, unless a part offends or a later byte is not 0
abbrev pub unpadded : {V : Type 0} → ℕ → (List ℕ → Option ℕ) → (List ℕ → V) → List ℕ → Result V ℕ
unpadded n offence made bs = value_unless (option_or (offence bs) (first_nonzero (drop n bs) n)) (made bs)
