-- What holds at each turn: the numbers before n are written, and the memory is the one that was lent.
use Rattle.std.proofs.Common.{◌≡◌}
use Rattle.bench_entry.proofs.Copied.{Wrote}
use Rattle.bench_entry.proofs.bench_write_levels.Given as goal

abbrev pub invariant-loop-n : goal.invariant-loop-n
invariant-loop-n l = (l.shelf.image.ghost_name ≡ l.initial.shelf.image.ghost_name) × Wrote l.initial.shelf.image.now l.shelf.image.now l.numbers l.n l.accepted
