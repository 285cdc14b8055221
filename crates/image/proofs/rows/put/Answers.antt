use Rattle.std.proofs.Common.{List, ℕ, ◌++◌, ap, ◌∙◌}
use Rattle.image.proofs.RowsWritten.{block_closed}
use Rattle.image.proofs.rows.put.Goals as goal

pub returns-in-Some : goal.returns-in-Some
returns-in-Some c =
    let cut = c.split_at_mut-rest.ensures in let part = c.split_at_mut-part.ensures in
    ap (λ (t : List ℕ). c.split_at_mut-rest.result.0.now ++ (c.write_row.new.block ++ t)) part.back
    ∙ block_closed c.args.image.now c.args.n c.args.row.now _ _ _ _ c.requires c.told-row cut.front cut.back (c.in-Some.ensures.cases.same ∙ part.front) c.write_row.ensures
