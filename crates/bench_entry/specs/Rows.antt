-- The levels of an image, and what a list is after another was copied over it.
use Rattle.std.specs.Prelude.{ℕ, ◌+◌, List, [], ◌∷◌, map}
use Rattle.values.specs.declared.level.Level.{Level}
use Rattle.values.specs.Levels.{level, level_packed, level_unpacked}
use Rattle.image.specs.Images.{image_rows, image_written}
use Rattle.image.specs.Sound.{Sound}

-- the rows of an image of levels, as the block shelf shows them
abbrev pub levels_of : List ℕ → List Level
levels_of image = image_rows (level 0) level_unpacked image

-- a sound image of levels
abbrev pub SoundLevels : List ℕ → Type 0
SoundLevels = Sound 1 level_unpacked

-- a list with another laid over it from the start on; it stays as long as it is
abbrev pub laid_over : {X : Type 0} → List X → List X → List X
laid_over xs [] = xs
laid_over [] (y ∷ ys) = []
laid_over (x ∷ xs) (y ∷ ys) = y ∷ laid_over xs ys

-- the levels of numbers, and the numbers of levels
abbrev pub as_levels : List ℕ → List Level
as_levels = map level

abbrev pub as_numbers : List Level → List ℕ
as_numbers = map (λ v. v.value)

-- every byte of an image after numbers were written to rows k, k + 1 and so on, one after the other
abbrev pub image_after : List ℕ → ℕ → List ℕ → List ℕ
image_after image k [] = image
image_after image k (n ∷ ns) = image_after (image_written image k (level_packed (level n))) (k + 1) ns
