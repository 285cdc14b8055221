use Rattle.std.proofs.Common.{◌≡◌, ◌-◌, ◌/◌, length}
use Rattle.image.specs.Images.{block_of}
use Rattle.image.specs.Faults.{check_each, block_check, blocks_check}
use Rattle.image.proofs.check.check_blocks.Given as goal

abbrev pub invariant-loop-q : goal.invariant-loop-q
invariant-loop-q g l =
    check_each (λ q. block_check g.K.Kind.NUMBER g.K.Kind.unpacked q (block_of l.image q)) l.q (length l.image / 512 - l.q)
    ≡ blocks_check g.K.Kind.NUMBER g.K.Kind.unpacked l.image
