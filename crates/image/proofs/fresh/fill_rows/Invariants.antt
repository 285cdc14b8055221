use Rattle.image.proofs.NewImage.{RowsFilled}
use Rattle.image.proofs.fresh.fill_rows.Given as goal

abbrev pub invariant-loop-k : goal.invariant-loop-k
invariant-loop-k l = RowsFilled l.initial.block l.row l.block l.k
