use Rattle.std.proofs.Common.{◌≡◌, ℕ, ◌+◌, ◌<◌, cond, length, sym, ap, ◌∙◌, subst}
use Rattle.rules.specs.declared.Answer.TheVariants.{Committed}
use Rattle.rules.specs.declared.Call.TheVariants.{Commit}
use Rattle.rules.specs.Operations.{settle}
use Rattle.locks.specs.declared.table.LockTable.{LockTable}
use Rattle.locks.specs.View.{stations_with, active_at}
use Rattle.locks.specs.Changes.{change, freed}
use Rattle.engine.specs.View.{view, drafts_of, drafted, show_of, shown, records_of, table_from}
use Rattle.engine.specs.Promoting.{RowsFor}
use Rattle.engine.proofs.Steps.{handed_naming, refusal_of, admission_of}
use Rattle.engine.proofs.Commits.{commit_below, commit_refusal, may_name, committed_step}
use Rattle.engine.proofs.Engine.commit.Goals as goal

pub write_drafts-requires : goal.write_drafts-requires
write_drafts-requires g c =
    let named = c.admit_commit.ensures in
    let ok = admission_of c.args.station c.in_ok-s.s _ (sym c.in_ok-s.was ∙ named.2) in
    subst (λ (j : ℕ). j < 16) (sym ok.1) (commit_below c.args.self.now.locks c.args.station named.0 ok.0)

pub returns-in_err-s-clause-ruled : goal.returns-in_err-s-clause-ruled
returns-in_err-s-clause-ruled g c =
    let e = c.args.self.now in let s = c.args.station in let drafts = drafted g.K.Kind g.D.Shelf e in let named = c.admit_commit.ensures in λ _. (
      named.0,
      may_name drafts e.locks.stations s named.0 named.1,
      handed_naming g.K.Kind.applied (Commit s) (view g.K.Kind g.S.Shelf g.D.Shelf e) named.0 Committed _ _ c.from_residual.ensures.1
          (commit_refusal g.row.K-Change.Denot drafts (shown g.K.Kind g.S.Shelf e) e.locks s (records_of (length (g.S.Shelf.rows e.show)) (length (g.D.Shelf.rows e.drafts))) named.0 ∙ refusal_of s _ _ (sym c.in_err-s.was ∙ named.2)),
    )

pub returns-clause-ruled : goal.returns-clause-ruled
returns-clause-ruled g c =
    let home = g.K.Kind.home in let e = c.args.self.now in let show = g.S.Shelf.rows e.show in let drafts = g.D.Shelf.rows e.drafts in
    let wrote = c.write_drafts.ensures in let plotted = g.S.Shelf.rows c.write_drafts.new.self.show in
    let u = c.commit-number.new.self in let ends = c.commit-number.ensures in
    let w = c.settle.new.self in let rows = g.D.Shelf.rows w.drafts in let rest = c.settle.ensures.rest in
    let s = c.args.station in let i = c.in_ok-s.s in let named = c.admit_commit.ensures in
    let ok = admission_of s i _ (sym c.in_ok-s.was ∙ named.2) in
    let frees = ends.stations ∙ ap (λ (l : LockTable). change freed i l.stations) wrote.locks in
    let counts = ends.commits ∙ ap (λ (l : LockTable). cond (active_at l.stations i) (l.commits + 1) l.commits) wrote.locks in
    let settles = subst (λ d. RowsFor u.stations (g.D.Shelf.rows d) → stations_with (drafts_of home rows) w.locks.stations ≡ settle (show_of home plotted) (stations_with (drafts_of home (g.D.Shelf.rows d)) u.stations))
    wrote.drafts c.settle.ensures.stations in
    let long = rest.kept_drafts.same_count ∙ ap (λ d. length (g.D.Shelf.rows d)) wrote.drafts in
    let next = rest.same_stamp ∙ ends.stamps ∙ ap (λ (l : LockTable). l.next) wrote.locks in λ orderly. (
      named.0,
      may_name (drafts_of home drafts) e.locks.stations s named.0 named.1,
      ap (λ x. (Committed c.commit-number.result, table_from home (g.S.Shelf.rows x) rows w.locks)) rest.same_show
          ∙ committed_step g.K.Kind.applied home show plotted drafts rows e.locks u w.locks s i c.commit-number.result named.0
          orderly ok.0 ok.1 wrote.rows frees counts ends.number settles long next rest.same_commits,
    )
