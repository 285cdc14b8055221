-- What the host program gets: the check by a kind number, and its answer as one number.
use Rattle.std.specs.Prelude.{◌≡◌, ℕ, ◌+◌, ◌*◌, cond, ◌⊎◌, List, length, Ok, Err, ◌==◌}
use Rattle.std.specs.Option.{unwrap_or}
use Rattle.values.specs.Levels.{level_unpacked}
use Rattle.values.specs.Timings.{timing_unpacked}
use Rattle.image.specs.Faults.{Verdict, whole_blocks, image_check, named_block, named_row, refusal_number}
use Rattle.image.specs.Sound.{Sound}
use Rattle.image.specs.declared.fault.Fault.{Fault}
use Rattle.image.specs.declared.fault.Fault.TheVariants.{Length, Kind}

-- level is kind 1 and cue timing kind 2; any other kind number is a fault of block 0, after a wrong length
abbrev pub host_check : ℕ → List ℕ → Verdict
host_check kind image =
    cond (kind == 1) (image_check 1 level_unpacked image)
    (cond (kind == 2) (image_check 2 timing_unpacked image)
    (cond (whole_blocks (length image)) (Err (Kind 0)) (Err Length)))

-- a sound image of the kind with this number
abbrev pub SoundOf : ℕ → List ℕ → Type 0
SoundOf kind image = ((kind ≡ 1) × Sound 1 level_unpacked image) ⊎ ((kind ≡ 2) × Sound 2 timing_unpacked image)

-- the block of a fault, and the row's place in it where a row is the fault; 0 where there is none
abbrev pub fault_block : Fault → ℕ
fault_block f = unwrap_or (named_block f) 0

abbrev pub fault_row : Fault → ℕ
fault_row f = unwrap_or (named_row f) 0

-- 0, or refusal + 256 x block + 65,536 x row
abbrev pub host_number : Verdict → ℕ
host_number (Ok u) = 0
host_number (Err f) = refusal_number f + 256 * fault_block f + 65536 * fault_row f
