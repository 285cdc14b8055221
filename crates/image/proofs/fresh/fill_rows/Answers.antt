use Rattle.std.proofs.Common.{rules}
use Rattle.image.proofs.NewImage.{row_filled}
use Rattle.image.proofs.fresh.fill_rows.Goals as goal

pub loop-k-preserved : goal.loop-k-preserved
loop-k-preserved c = row_filled c.args.block.now c.args.row.now c.loop-k.block c.put_row.new.block c.loop-k.k (search rules) c.told-row c.loop-k.invariant c.put_row.ensures
