-- A turn writes one row; after the last all are written.
use Rattle.std.proofs.Common.{◌≡◌, ◌+◌, min, length, refl, arith, rules}
use Rattle.values.specs.Equality.{same_level}
use Rattle.image.specs.Images.{row_count}
use Rattle.bench_entry.specs.Rows.{levels_of}
use Rattle.bench_entry.proofs.Copied.{accepted_below, refused_past, wrote_none, rows_stay, wrote_more, wrote_all}
use Rattle.bench_entry.proofs.bench_write_levels.Goals as goal
use Rattle.bench_entry.proofs.bench_write_levels.Goals.{then-is_ok, else-is_ok}

pub loop-n-init : goal.loop-n-init
loop-n-init c = (refl, wrote_none c.args.image.now c.args.numbers.now)

pub overflow_add-accepted : goal.overflow_add-accepted
overflow_add-accepted c = let k = c.loop-n.invariant.1.count in omega arith

pub loop-n-preserved : goal.loop-n-preserved
loop-n-preserved c =
    let image = c.args.image.now in let image' = c.loop-n.shelf.image.now in let ns = c.args.numbers.now in let n = c.loop-n.n in
    let w = c.loop-n.invariant.1 in let wrote = c.write.ensures in let before = w.count in
    let rows = rows_stay image image' ns n c.loop-n.accepted w in
    let small = c.type_inv.numbers n in
    let count : c.if-is_ok.accepted ≡ min (n + 1) (row_count (length image)) =
    elim c.if-is_ok.branch [
      | then-is_ok t ↦ let h = accepted_below (levels_of image') n c.write.result wrote.answer t.if-is_ok.ensures.value in omega (arith, t.accepted-is)
      | else-is_ok t ↦ let h = refused_past (levels_of image') n c.write.result wrote.answer t.if-is_ok.ensures.value in omega (arith, t.accepted-is)
    ] in (
      search rules,
      wrote_more image image' ns n c.loop-n.accepted w _ _ _ c.loop-n-test.true (same_level _ _ (omega arith)) wrote.after wrote.sound wrote.bytes count,
    )

pub returns : goal.returns
returns c =
    let e : length c.args.numbers.now ≡ c.loop-n.n = omega arith in
    let w = c.loop-n.invariant.1 in let count = w.count in
    let answer : c.loop-n.accepted ≡ min (length c.args.numbers.now) (row_count (length c.args.image.now)) = omega arith in
    let all = wrote_all c.args.image.now c.loop-n.shelf.image.now c.args.numbers.now c.loop-n.n c.loop-n.accepted w _ e (search rules) in
    record { answer = answer; rows = all.0; sound = all.1; bytes = all.2 }
