use Rattle.std.proofs.Common.{◌≡◌, ℕ, ◌<◌}
use Rattle.image.specs.Images.{block_of}
use Rattle.image.specs.Sound.{BlockOf}
use Rattle.image.proofs.fresh.new_blocks.Given as goal

abbrev pub invariant-loop-q : goal.invariant-loop-q
invariant-loop-q l = (p : ℕ) → p < l.q → BlockOf l.kind (λ bytes. bytes ≡ l.row) p (block_of l.image p)
