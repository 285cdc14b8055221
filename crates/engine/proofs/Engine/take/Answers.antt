use Rattle.std.proofs.Common.{sym, ap, ◌∙◌}
use Rattle.rules.specs.declared.Call.TheVariants.{Take}
use Rattle.locks.specs.View.{member_of}
use Rattle.engine.specs.View.{view, drafted, shown, table_from}
use Rattle.engine.specs.Answers.{taken}
use Rattle.engine.proofs.Steps.{handed_step, refusal_of, admission_of}
use Rattle.engine.proofs.Takes.{take_refusal, taken_step}
use Rattle.engine.proofs.Engine.take.Goals as goal

pub returns-in_err-s-clause-ruled : goal.returns-in_err-s-clause-ruled
returns-in_err-s-clause-ruled g c =
    let e = c.args.self.now in let s = c.args.station in let r = c.args.at in
    handed_step g.K.Kind.applied (Take s r c.args.mode) (view g.K.Kind g.S.Shelf g.D.Shelf e) taken _ _ c.from_residual.ensures.1
    (take_refusal g.row.K-Change.Denot (drafted g.K.Kind g.D.Shelf e) (shown g.K.Kind g.S.Shelf e) e.locks s r c.records-records.result _ c.args.mode _ c.records-records.ensures
    (sym (refusal_of s _ _ (sym c.in_err-s.was ∙ c.admit_take.ensures c.args.mode))))

pub returns-clause-ruled : goal.returns-clause-ruled
returns-clause-ruled g c =
    let e = c.args.self.now in let show = g.S.Shelf.rows e.show in let drafts = g.D.Shelf.rows e.drafts in
    let w = c.settle.new.self in let rows = g.D.Shelf.rows w.drafts in let rest = c.settle.ensures.rest in
    let s = c.args.station in let m = c.args.mode in let first = member_of c.must_yield.result in let members = member_of c.widen-wounded.result in
    let ok = admission_of s c.in_ok-s.s _ (sym c.in_ok-s.was ∙ c.admit_take.ensures m) in
    ap (λ x. (taken (c.outcome.result, c.count.result), table_from g.K.Kind.home (g.S.Shelf.rows x) rows w.locks)) rest.same_show
    ∙ taken_step g.K.Kind.applied g.K.Kind.home show drafts rows e.locks c.wound.new.self c.wait.new.self w.locks s c.in_ok-s.s c.args.at c.records-records.result m first members
    ok.0 c.records-records.ensures ok.1 c.must_yield.ensures c.widen-wounded.ensures c.wound.ensures.stations c.wait.ensures.stations c.settle.ensures.stations
    rest.kept_drafts.same_count (rest.same_stamp ∙ c.wait.ensures.stamps ∙ c.wound.ensures.stamps) (rest.same_commits ∙ c.wait.ensures.commits ∙ c.wound.ensures.commits)
    c.outcome.result c.count.result c.outcome.ensures c.count.ensures
