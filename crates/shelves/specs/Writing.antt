-- When a write to a shelf is refused.
use Rattle.std.specs.Prelude.{ℕ, cond, List, length, Ok, Err, Result, nat_lt}
use Rattle.shelves.specs.declared.shelf.PastCount.{PastCount}

-- accepted below the count, and refused at or past it
abbrev pub write_answer : {V : Type 0} → List V → ℕ → Result (Unit {0}) PastCount
write_answer rows n = cond (nat_lt n (length rows)) (Ok tt) (Err (record {}))
