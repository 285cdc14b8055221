-- What holds at each turn: the rows before n are read.
use Rattle.bench_entry.specs.Rows.{levels_of}
use Rattle.bench_entry.proofs.Copied.{Got}
use Rattle.bench_entry.proofs.bench_read_levels.Given as goal

abbrev pub invariant-loop-n : goal.invariant-loop-n
invariant-loop-n l = Got (levels_of l.shelf.image.now) l.initial.numbers l.numbers l.n l.got
