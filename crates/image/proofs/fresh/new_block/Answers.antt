use Rattle.std.proofs.Common.{sym, subst, rules}
use Rattle.image.specs.Sound.{BlockOf}
use Rattle.image.proofs.NewImage.{new_block_of}
use Rattle.image.proofs.fresh.new_block.Goals as goal

pub returns : goal.returns
returns c =
    subst (BlockOf c.args.kind _ c.args.q) (sym c.close.ensures)
    (new_block_of c.args.kind c.args.q c.args.row.now c.write_header.new.block c.fill_rows.new.block (search rules) c.write_header.ensures c.fill_rows.ensures.header c.fill_rows.ensures.rows)
