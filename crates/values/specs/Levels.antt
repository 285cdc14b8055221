-- Levels: the number, its changes, its bytes, and how the host's memory is read.
use Rattle.std.specs.Prelude.{ℕ, ◌+◌, ◌-◌, ◌/◌, ◌%◌, min, cond, List, [], ◌∷◌, None, Option, Result, nat_lt}
use Rattle.std.proofs.Common.{arith}
use Rattle.values.specs.Packing.{number_at, padded, unpadded}
use Rattle.values.specs.declared.level.Level.{Level}
use Rattle.values.specs.declared.level.LevelChange.{LevelChange}
use Rattle.values.specs.declared.level.LevelChange.TheVariants.{Set, Up, Down}

-- the level n, or the highest where n is above it
abbrev pub level : ℕ → Level
level n = record { value = min n 65535; ok = omega arith }

-- a level after a change
abbrev pub level_applied : Level → LevelChange → Level
level_applied v (Set n) = level n
level_applied v (Up n) = level (v.value + n)
level_applied v (Down n) = level (v.value - n)

-- the two bytes of a level
abbrev pub level_parts : Level → List ℕ
level_parts v = (v.value % 256) ∷ (v.value / 256 % 256) ∷ []

abbrev pub level_packed : Level → List ℕ
level_packed v = padded 2 (level_parts v)

-- every two bytes are a level, so none of them offends
abbrev pub level_offence : List ℕ → Option ℕ
level_offence bs = None

abbrev pub level_made : List ℕ → Level
level_made bs = level (number_at bs 0)

abbrev pub level_unpacked : List ℕ → Result Level ℕ
level_unpacked = unpadded 2 level_offence level_made

-- a number in the host's memory; one that is no level reads as home
abbrev pub level_reading : ℕ → Level
level_reading n = cond (nat_lt n 65536) (level n) (level 0)
