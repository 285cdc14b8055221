use Rattle.std.proofs.Common.{◌/◌, length, Err, sym, ap, ◌∙◌, arith}
use Rattle.std.proofs.lemmas.Result.{err_from_is_err_and}
use Rattle.image.specs.Images.{block_of}
use Rattle.image.specs.Faults.{block_check}
use Rattle.image.proofs.Chunks.{block_at}
use Rattle.image.proofs.FirstFault.{passed_more, fault_found, all_passed}
use Rattle.image.proofs.check.check_blocks.Goals as goal

pub returns-in_err-check_block : goal.returns-in_err-check_block
returns-in_err-check_block g c =
    let check = block_check g.K.Kind.NUMBER g.K.Kind.unpacked in let image = c.args.image.now in let q = c.loop-q.q in
    let p = err_from_is_err_and c.from_residual.result c.from_residual.ensures.1 in
    let block = block_at image c.as_chunks.result.0.now q c.as_chunks.ensures.front (omega arith) in
    p.1 ∙ ap Err p.2
    ∙ fault_found (λ q. check q (block_of image q)) (length image / 512) q _ (omega arith) (sym (sym c.in_err-check_block.was ∙ c.check_block.ensures ∙ ap (check q) block))
    ∙ c.loop-q.invariant

pub loop-q-preserved : goal.loop-q-preserved
loop-q-preserved g c =
    let check = block_check g.K.Kind.NUMBER g.K.Kind.unpacked in let image = c.args.image.now in let q = c.loop-q.q in
    let block = block_at image c.as_chunks.result.0.now q c.as_chunks.ensures.front (omega arith) in
    passed_more (λ q. check q (block_of image q)) (length image / 512) q (omega arith) (sym (sym c.in_ok-check_block.was ∙ c.check_block.ensures ∙ ap (check q) block))
    ∙ c.loop-q.invariant

pub returns : goal.returns
returns g c =
    all_passed (λ q. block_check g.K.Kind.NUMBER g.K.Kind.unpacked q (block_of c.args.image.now q)) (length c.args.image.now / 512) c.loop-q.q (omega arith) ∙ c.loop-q.invariant
