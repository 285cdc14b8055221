use Rattle.std.proofs.Common.{◌≡◌, ◌-◌}
use Rattle.image.specs.Blocks.{row_of}
use Rattle.image.specs.Faults.{check_each, row_check, rows_check}
use Rattle.image.proofs.check.check_rows.Given as goal

abbrev pub invariant-loop-k : goal.invariant-loop-k
invariant-loop-k g l = check_each (λ k. row_check l.q k (g.K.Kind.unpacked (row_of l.block k))) l.k (31 - l.k) ≡ rows_check g.K.Kind.unpacked l.q l.block
