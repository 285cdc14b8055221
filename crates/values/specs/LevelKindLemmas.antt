-- What levels owe of their two bytes; the laws of packing follow for every kind.
use Rattle.std.specs.Prelude.{ℕ, ◌/◌, ◌%◌, ◌<◌, [], ◌∷◌, slice_index, refl}
use Rattle.std.proofs.Common.{arith, rules}
use Rattle.values.specs.Levels.{level_parts, level_offence, level_made}
use Rattle.values.specs.Padded.{Parts, take_listed, low_byte, high_byte}
use Rattle.values.specs.Equality.{same_level}

pub two_small : (x y : ℕ) → x < 256 → y < 256 → (k : ℕ) → slice_index (x ∷ y ∷ []) k < 256
two_small x y h g k = grind arith

pub parts : Parts 2 level_parts level_offence level_made
parts = record {
  few = search rules;
  long = λ v. refl;
  small = λ v. two_small (v.value % 256) (v.value / 256 % 256) (omega arith) (omega arith);
  sound = λ v. refl;
  again = λ v. same_level _ _ (let h : v.value < 65536 = v.ok in omega arith);
  fronts = λ b row e.
      let x = row.1 0 in let y = row.1 1 in
      let low = low_byte 65535 (slice_index b 0) (slice_index b 1) (omega arith) x y in
      let high = high_byte 65535 (slice_index b 0) (slice_index b 1) (omega arith) x y in
      let l = take_listed 2 b (omega arith) in cc;
  begins = λ b k row e. absurd cc;
}
