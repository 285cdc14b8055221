use Rattle.std.proofs.Common.{sym, ap, ◌∙◌, arith}
use Rattle.image.specs.Blocks.{row_of}
use Rattle.image.specs.Faults.{row_check}
use Rattle.image.proofs.Chunks.{row_at}
use Rattle.image.proofs.FirstFault.{passed_more, fault_found, all_passed}
use Rattle.image.proofs.check.check_rows.Goals as goal

pub returns-in-Err : goal.returns-in-Err
returns-in-Err g c =
    let unpacked = g.K.Kind.unpacked in let b = c.args.block.now in let q = c.args.q in let k = c.loop-k.k in
    let row = row_at b c.rows_of-rows.result.now k c.rows_of-rows.ensures.rows (omega arith) in
    fault_found (λ k. row_check q k (unpacked (row_of b k))) 31 k _ (omega arith) (sym (ap (row_check q k) (c.in-Err.ensures ∙ ap unpacked row))) ∙ c.loop-k.invariant

pub loop-k-preserved : goal.loop-k-preserved
loop-k-preserved g c =
    let unpacked = g.K.Kind.unpacked in let b = c.args.block.now in let q = c.args.q in let k = c.loop-k.k in
    let row = row_at b c.rows_of-rows.result.now k c.rows_of-rows.ensures.rows (omega arith) in
    passed_more (λ k. row_check q k (unpacked (row_of b k))) 31 k (omega arith) (sym (ap (row_check q k) (c.in_default.ensures ∙ ap unpacked row))) ∙ c.loop-k.invariant

pub returns : goal.returns
returns g c = all_passed (λ k. row_check c.args.q k (g.K.Kind.unpacked (row_of c.args.block.now k))) 31 c.loop-k.k (omega arith) ∙ c.loop-k.invariant
