-- A turn reads one row; after the last all are read.
use Rattle.std.proofs.Common.{refl, ◌∙◌, arith, rules}
use Rattle.std.proofs.lemmas.List.{set-get_or}
use Rattle.values.specs.Levels.{level, level_unpacked}
use Rattle.image.proofs.RowsWritten.{rows_long}
use Rattle.bench_entry.specs.Rows.{levels_of}
use Rattle.bench_entry.proofs.Copied.{got_none, got_row, past_rows, got_all}
use Rattle.bench_entry.proofs.bench_read_levels.Goals as goal
use Rattle.bench_entry.proofs.bench_read_levels.Goals.{in-Some, in_default}

pub loop-n-init : goal.loop-n-init
loop-n-init c = got_none (levels_of c.args.image.now) c.args.numbers.now

pub overflow_add-got : goal.overflow_add-got
overflow_add-got c = let k = c.loop-n.invariant.count in omega arith

pub loop-n-preserved : goal.loop-n-preserved
loop-n-preserved c =
    let rows = levels_of c.args.image.now in let ns = c.args.numbers.now in let nums = c.loop-n.numbers in
    elim c.match-read.branch [
      | in-Some w ↦ got_row rows ns nums c.loop-n.n c.loop-n.got c.loop-n.invariant w.in-Some.level _ _ (search rules) (search rules) (search rules)
      | in_default w ↦ past_rows rows ns nums c.loop-n.n c.loop-n.got c.loop-n.invariant _ _ (search rules) (w.numbers-is ∙ set-get_or nums c.loop-n.n 0) (search rules)
    ]

pub returns : goal.returns
returns c =
    let rows = levels_of c.args.image.now in
    let count = c.loop-n.invariant.count in let long = rows_long (level 0) level_unpacked c.args.image.now in
    record {
      answer = omega arith;
      numbers = got_all rows c.args.numbers.now c.loop-n.numbers c.loop-n.n c.loop-n.got c.loop-n.invariant (omega arith);
      image = refl;
    }
