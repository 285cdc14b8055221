-- Cue timings: three times and a link, their changes, their bytes, and how the host's memory is read.
use Rattle.std.specs.Prelude.{ℕ, ◌/◌, ◌%◌, min, cond, ◌&&◌, List, [], ◌∷◌, Some, None, Ok, Err, Option, Result, nat_le, slice_index}
use Rattle.std.proofs.Common.{arith}
use Rattle.std.specs.Option.{option_or}
use Rattle.values.specs.Packing.{number_at, padded, unpadded}
use Rattle.values.specs.Links.{link_of, link_number}
use Rattle.values.specs.declared.timing.Timing.{Timing}
use Rattle.values.specs.declared.timing.link.Link.{Link}
use Rattle.values.specs.declared.timing.link.Link.TheVariants.{ByHand}
use Rattle.values.specs.declared.timing.numbers.TimingNumbers.{TimingNumbers}
use Rattle.values.specs.declared.timing.numbers.NotATiming.{NotATiming}
use Rattle.values.specs.declared.timing.TimingChange.{TimingChange}
use Rattle.values.specs.declared.timing.TimingChange.TheVariants as change

-- the timing of three times and a link; a time above an hour becomes an hour
abbrev pub timing : ℕ → ℕ → ℕ → Link → Timing
timing up down wait link = record { up = min up 36000; down = min down 36000; wait = min wait 36000; link = link; ok = (omega arith, omega arith, omega arith) }

-- a timing after a change; a link above 2 leaves it
abbrev pub timing_applied : Timing → TimingChange → Timing
timing_applied v (change.FadeUp n) = timing n v.down v.wait v.link
timing_applied v (change.FadeDown n) = timing v.up n v.wait v.link
timing_applied v (change.Wait n) = timing v.up v.down n v.link
timing_applied v (change.Link n) = timing v.up v.down v.wait (cond (nat_le n 2) (link_of n) v.link)

-- the seven bytes of a timing
abbrev pub timing_parts : Timing → List ℕ
timing_parts v =
    (v.up % 256) ∷ (v.up / 256 % 256)
    ∷ (v.down % 256) ∷ (v.down / 256 % 256)
    ∷ (v.wait % 256) ∷ (v.wait / 256 % 256)
    ∷ link_number v.link ∷ []

abbrev pub timing_packed : Timing → List ℕ
timing_packed v = padded 7 (timing_parts v)

-- a time above an hour, named by its first byte
abbrev pub time_offence : List ℕ → ℕ → Option ℕ
time_offence bs k = cond (nat_le (number_at bs k) 36000) None (Some k)

abbrev pub link_offence : List ℕ → Option ℕ
link_offence bs = cond (nat_le (slice_index bs 6) 2) None (Some 6)

-- the first part that offends
abbrev pub timing_offence : List ℕ → Option ℕ
timing_offence bs = option_or (time_offence bs 0) (option_or (time_offence bs 2) (option_or (time_offence bs 4) (link_offence bs)))

abbrev pub timing_made : List ℕ → Timing
timing_made bs = timing (number_at bs 0) (number_at bs 2) (number_at bs 4) (link_of (slice_index bs 6))

abbrev pub timing_unpacked : List ℕ → Result Timing ℕ
timing_unpacked = unpadded 7 timing_offence timing_made

-- the numbers of a timing in the host's memory; numbers that no timing has read as home
abbrev pub timing_numbers : Timing → TimingNumbers
timing_numbers v = record { up = v.up; down = v.down; wait = v.wait; link = link_number v.link }

abbrev pub timing_reading : TimingNumbers → Timing
timing_reading n =
    cond (nat_le n.up 36000 && nat_le n.down 36000 && nat_le n.wait 36000 && nat_le n.link 2)
    (timing n.up n.down n.wait (link_of n.link))
    (timing 0 0 0 ByHand)

-- the timing of plain numbers, unless no timing has them
abbrev pub timing_read : TimingNumbers → Result Timing NotATiming
timing_read n =
    cond (nat_le n.up 36000 && nat_le n.down 36000 && nat_le n.wait 36000 && nat_le n.link 2)
    (Ok (timing n.up n.down n.wait (link_of n.link)))
    (Err (record {}))
