use Rattle.image.proofs.Lanes.{checks_are}
use Rattle.image.proofs.block.check_of.Goals as goal

pub returns : goal.returns
returns c = let e = checks_are c.args.block.now c.told-block c.rows_mixed-rows.result c.rows_mixed-rows.ensures in cc
