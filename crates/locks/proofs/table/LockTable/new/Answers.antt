use Rattle.std.proofs.Common.{rules, arith}
use Rattle.locks.proofs.Kept.{all_idle, new_kept}
use Rattle.locks.proofs.table.LockTable.new.Goals as goal

pub returns-clause-stations : goal.returns-clause-stations
returns-clause-stations c =
    let made = c.from_fn.ensures.items in
    all_idle c.from_fn.result made.long (λ k d h. let called = made.at k d h in search rules)

pub invariant_of-result : goal.invariant_of-result
invariant_of-result c =
    let made = c.from_fn.ensures.items in
    new_kept _ _ (all_idle c.from_fn.result made.long (λ k d h. let called = made.at k d h in search rules)) (omega arith)
