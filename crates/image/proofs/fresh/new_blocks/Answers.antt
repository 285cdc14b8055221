use Rattle.std.proofs.Common.{◌≡◌, ℕ, ◌/◌, List, length, sym, subst, ap, ◌∙◌, arith}
use Rattle.image.specs.Faults.{whole_blocks}
use Rattle.image.specs.Images.{block_of}
use Rattle.image.specs.Sound.{BlockOf}
use Rattle.image.proofs.NewImage.{block_made}
use Rattle.image.proofs.Sound.{blocks_image}
use Rattle.image.proofs.fresh.new_blocks.Goals as goal
use Rattle.image.proofs.fresh.new_blocks.Goals.{in-Some, in_default}

pub loop-q-preserved : goal.loop-q-preserved
loop-q-preserved c p h =
    let row = c.args.row.now in let cut = c.split_at_mut-rest.ensures in
    elim c.match-first_chunk_mut.branch [
      | in-Some w ↦
          subst (λ (t : List ℕ). BlockOf c.args.kind (λ bytes. bytes ≡ row) p (block_of t p)) (sym w.image-is)
          (block_made c.args.kind row c.loop-q.image _ _ c.loop-q.q w.new_block.new.block (omega arith) cut.front cut.back (ap length (sym w.image-is) ∙ c.match-first_chunk_mut.auto.image) c.loop-q.invariant w.new_block.ensures p h)
      | in_default w ↦ let z = w.in_default.ensures.cases in absurd (omega arith)
    ]

pub returns : goal.returns
returns c =
    let same = c.loop-q.auto.image in
    let count = ap (λ (n : ℕ). n / 512) same in
    blocks_image c.args.kind _ c.loop-q.image (ap whole_blocks same ∙ c.requires) (λ q h. c.loop-q.invariant q (omega arith))
