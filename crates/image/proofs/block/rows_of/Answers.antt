use Rattle.std.proofs.Common.{◌∙◌, arith}
use Rattle.image.proofs.Parts.{length_part}
use Rattle.image.proofs.Chunks.{rows_are}
use Rattle.image.proofs.block.rows_of.Goals as goal

pub returns-clause-rows : goal.returns-clause-rows
returns-clause-rows c =
    let b = c.args.block.now in
    let l = length_part b 8 496 (omega arith) in
    c.as_chunks.ensures.front ∙ rows_are b _ c.told-block (omega arith)
