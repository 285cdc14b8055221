use Rattle.std.proofs.Common.{◌≡◌, ℕ, Bool, true, Some, None, Option, MatchOption, sym, rules, arith}
use Rattle.rules.specs.Searches.{first_below}
use Rattle.rules.specs.Operations.{bonds, behind_bond}
use Rattle.rules.proofs.Searches.{first_below_passes, first_below_none}
use Rattle.locks.specs.View.{bare}
use Rattle.locks.proofs.Bonds.{no_bonds_past, no_bonds}
use Rattle.locks.proofs.Searches.{first_found}
use Rattle.locks.proofs.table.LockTable.blocker.Goals as goal

pub returns-then-i-ge16-clause-behind : goal.returns-then-i-ge16-clause-behind
returns-then-i-ge16-clause-behind c = no_bonds_past c.args.self.now.stations c.args.i (omega arith)

pub returns-clause-behind : goal.returns-clause-behind
returns-clause-behind c = by c.find.result (first_found 16 p _ c.find.ensures.ran (λ x b q k. search rules))
  where
    p : ℕ → Bool
    p = behind_bond (bare c.args.self.now.stations) c.args.i

    by : (o : Option ℕ) → o ≡ first_below 16 p → MatchOption o (bonds (bare c.args.self.now.stations) c.args.i ≡ 0) (λ j. p j ≡ true)
    by None e = no_bonds (bare c.args.self.now.stations) c.args.i (first_below_none 16 p (sym e))
    by (Some j) e = (first_below_passes 16 p j (sym e)).1
