use Rattle.std.proofs.Common.{◌≡◌, true, Err, sym, ap, ◌∙◌}
use Rattle.std.proofs.lemmas.Result.{err_from_is_err_and}
use Rattle.rules.specs.declared.Refusal.TheVariants as refusal
use Rattle.rules.specs.Operations.{bonds, behind_bond}
use Rattle.locks.specs.View.{bare}
use Rattle.locks.specs.Admission.{admitted, not_running}
use Rattle.locks.proofs.Refusals.{someone_to_name, commit_not_running, commit_bound, admitted_ok}
use Rattle.locks.proofs.table.LockTable.admit_commit.Goals as goal

pub returns-in_err-i : goal.returns-in_err-i
returns-in_err-i c =
    let t = c.args.self.now in
    let p = err_from_is_err_and c.from_residual.result c.from_residual.ensures.1 in
    let named = someone_to_name (bare t.stations) c.args.s in (
      named.0,
      named.1,
      p.1 ∙ ap Err p.2 ∙ ap (admitted c.args.s) (sym (commit_not_running t c.args.s named.0 _ c.in_err-i.ensures)),
    )

pub returns-in-Some : goal.returns-in-Some
returns-in-Some c =
    let t = c.args.self.now in
    let i = c.in_ok-i.i in
    let j = c.in-Some.j in
    let e = (admitted_ok i c.args.s (not_running t c.args.s) c.in_ok-i.ensures).1 in
    let behind : behind_bond (bare t.stations) c.args.s j ≡ true = ap (λ n. behind_bond (bare t.stations) n j) (sym e) ∙ c.in-Some.ensures.behind in (
      j,
      λ _. behind,
      ap (λ n. Err (refusal.Bound n j)) (c.bonds.ensures ∙ ap (bonds (bare t.stations)) e)
          ∙ ap (admitted c.args.s) (sym (commit_bound t c.args.s i j c.in_ok-i.ensures c.in-Some.ensures.within behind)),
    )
