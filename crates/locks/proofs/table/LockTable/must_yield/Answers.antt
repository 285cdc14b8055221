use Rattle.std.proofs.Common.{◌≡◌, ℕ, ◌≤◌, ◌&&◌, length, rules, ap, arith}
use Rattle.rules.specs.Operations.{must_yield}
use Rattle.rules.specs.Tables.{conflicts, hold_on}
use Rattle.locks.specs.View.{bare}
use Rattle.locks.proofs.Sets.{set_of}
use Rattle.locks.proofs.Widening.{not_younger_past}
use Rattle.locks.proofs.table.LockTable.must_yield.Goals as goal

pub returns : goal.returns
returns c =
    let xs = c.args.self.now.stations in
    let full : length xs ≡ 16 = c.args.self.now.full in
    set_of (must_yield (bare xs) c.args.i c.args.at c.args.mode) c.of.result (λ j h. let e = c.of.ensures.members j h in search rules) c.of.ensures.nobody_else
    (λ (j : ℕ) (h : 16 ≤ j). ap (λ b. b && conflicts c.args.mode (hold_on c.args.at (bare xs j).hand)) (not_younger_past xs c.args.i j (omega arith)))
