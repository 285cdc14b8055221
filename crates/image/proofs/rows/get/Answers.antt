use Rattle.std.proofs.Common.{ℕ, ◌/◌, ◌%◌, List, ap, ◌∙◌, arith}
use Rattle.image.specs.Blocks.{row_of}
use Rattle.image.proofs.Chunks.{block_at, row_at}
use Rattle.image.proofs.rows.get.Goals as goal

pub returns : goal.returns
returns c =
    let k = c.args.n % 31 in
    row_at _ c.rows_of.result.now k c.rows_of.ensures.rows (omega arith)
    ∙ ap (λ (b : List ℕ). row_of b k) (block_at c.args.image.now c.as_chunks.result.0.now (c.args.n / 31) c.as_chunks.ensures.front (omega arith))
