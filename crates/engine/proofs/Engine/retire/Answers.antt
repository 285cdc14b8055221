use Rattle.std.proofs.Common.{sym, ap, ◌∙◌}
use Rattle.rules.specs.declared.Answer.TheVariants.{Number}
use Rattle.rules.specs.declared.Call.TheVariants.{Retire}
use Rattle.rules.specs.Searches.{count_below}
use Rattle.locks.specs.View.{member_of}
use Rattle.locks.specs.Admission.{refusal_in}
use Rattle.engine.specs.View.{view, drafted, shown, table_from}
use Rattle.engine.proofs.Steps.{handed_step}
use Rattle.engine.proofs.Retires.{retire_refusal, retired_step}
use Rattle.engine.proofs.Engine.retire.Goals as goal

pub returns-in_err-s-clause-ruled : goal.returns-in_err-s-clause-ruled
returns-in_err-s-clause-ruled g c =
    let e = c.args.self.now in let s = c.args.station in let r = c.args.at in
    handed_step g.K.Kind.applied (Retire s r) (view g.K.Kind g.S.Shelf g.D.Shelf e) Number _ _ c.from_residual.ensures.1
    (retire_refusal g.row.K-Change.Denot (drafted g.K.Kind g.D.Shelf e) (shown g.K.Kind g.S.Shelf e) e.locks s r c.records-records.result _ _ c.records-records.ensures
    (sym (ap refusal_in c.in_err-s.was) ∙ c.admit_hold.ensures.refusal))

pub returns-clause-ruled : goal.returns-clause-ruled
returns-clause-ruled g c =
    let e = c.args.self.now in let show = g.S.Shelf.rows e.show in let drafts = g.D.Shelf.rows e.drafts in
    let w = c.settle.new.self in let rows = g.D.Shelf.rows w.drafts in let rest = c.settle.ensures.rest in
    ap (λ x. (Number c.count.result, table_from g.K.Kind.home (g.S.Shelf.rows x) rows w.locks)) rest.same_show
    ∙ retired_step g.K.Kind.applied g.K.Kind.home show drafts rows e.locks c.retire.new.self w.locks c.args.station c.in_ok-s.s c.in_ok-s.k c.args.at c.records-records.result
    (sym c.in_ok-s.ensures.refusal) c.records-records.ensures c.in_ok-s.ensures.place c.retire.ensures.stations c.settle.ensures.stations
    rest.kept_drafts.same_count (rest.same_stamp ∙ c.retire.ensures.stamps) (rest.same_commits ∙ c.retire.ensures.commits)
    (member_of c.waiting-waited.result) (member_of c.waiting.result) c.count.result c.waiting-waited.ensures c.waiting.ensures (c.count.ensures ∙ ap (count_below 16) c.without.ensures)
