-- Values whose numbers are equal are equal.
use Rattle.std.specs.Prelude.{◌≡◌, ℕ}
use Rattle.std.proofs.Common.{ap}
use denote.Struct.Record.{values_one}
use Rattle.values.specs.declared.level.Level.{Level}
use Rattle.values.specs.contracts.level.Level as level_of
use Rattle.values.specs.declared.timing.Timing.{Timing}
use Rattle.values.specs.contracts.timing.Timing as timing_of
use Rattle.values.specs.contracts.timing.link.Link as link_of

pub same_level : (a b : Level) → a.value ≡ b.value → a ≡ b
same_level a b e = values_one level_of.struct level_of.the_propositions a b (ap (λ (n : ℕ). (n, tt)) e)

pub same_timing : (a b : Timing) → a.up ≡ b.up → a.down ≡ b.down → a.wait ≡ b.wait → a.link ≡ b.link → a ≡ b
same_timing a b e f g h = values_one timing_of.struct (timing_of.the_propositions (link_of.the_row).coded) a b cc
