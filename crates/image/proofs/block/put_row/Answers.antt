use Rattle.std.proofs.Common.{◌+◌, ◌*◌}
use Rattle.image.proofs.Parts.{between_is}
use Rattle.image.proofs.block.put_row.Goals as goal

pub returns-in-Some : goal.returns-in-Some
returns-in-Some c =
    let cut = c.split_at_mut-rest.ensures in
    between_is c.args.block.now _ _ c.args.row.now (8 + 16 * c.args.k) 16 cut.front cut.back c.told-row
