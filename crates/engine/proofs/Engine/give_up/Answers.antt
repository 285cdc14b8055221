use Rattle.std.proofs.Common.{ℕ, ◌<◌, not, ◌&&◌, eqb, length, sym, refl, ap, ◌∙◌, subst, arith}
use Rattle.rules.specs.declared.Answer.TheVariants.{Number}
use Rattle.rules.specs.declared.Call.TheVariants.{GiveUp}
use Rattle.rules.specs.Searches.{count_below}
use Rattle.rules.specs.Tables.{is_wounded, idle_station, put}
use Rattle.rules.specs.Operations.{wound, wounded_by_give_up, settle}
use Rattle.locks.specs.View.{bare, active_at, stations_with}
use Rattle.locks.specs.Changes.{change, freed}
use Rattle.locks.proofs.ChangedViews.{freed_view}
use Rattle.engine.specs.View.{view, drafted, shown, stations_of, records_of, table_from}
use Rattle.engine.proofs.Steps.{handed_step, accepted_step, refusal_of, admission_of, table_of_all}
use Rattle.engine.proofs.GivesUp.{give_up_acts, give_up_wounded, give_up_at_work, orderly_served}
use Rattle.engine.proofs.Engine.give_up.Goals as goal

pub returns-in_err-s-clause-ruled : goal.returns-in_err-s-clause-ruled
returns-in_err-s-clause-ruled g c = λ _.
    handed_step g.K.Kind.applied (GiveUp c.args.station) (view g.K.Kind g.S.Shelf g.D.Shelf c.args.self.now) Number _ _ c.from_residual.ensures.1
    (refusal_of c.args.station _ _ (sym c.in_err-s.was ∙ c.admit_give_up.ensures))

pub withdraw-requires : goal.withdraw-requires
withdraw-requires g c =
    let t = c.args.self.now.locks in let s = c.args.station in
    let ok = admission_of s c.in_ok-s.s _ (sym c.in_ok-s.was ∙ c.admit_give_up.ensures) in
    let at = give_up_acts g.row.K-Change.Denot (view g.K.Kind g.S.Shelf g.D.Shelf c.args.self.now) s ok.0 in
    (subst (λ (j : ℕ). j < 16) (sym ok.1) at.0, ap (active_at t.stations) ok.1 ∙ at.1)

pub returns-then-is_wounded-clause-ruled : goal.returns-then-is_wounded-clause-ruled
returns-then-is_wounded-clause-ruled g c =
    let e = c.args.self.now in let t = e.locks in let s = c.args.station in let before = view g.K.Kind g.S.Shelf g.D.Shelf e in
    let drafts = drafted g.K.Kind g.D.Shelf e in let frees = c.free.ensures in
    let ok = admission_of s c.in_ok-s.s _ (sym c.in_ok-s.was ∙ c.admit_give_up.ensures) in
    let at = give_up_acts g.row.K-Change.Denot before s ok.0 in let low : s < 16 = at.0 in
    let told = give_up_wounded g.K.Kind.applied before s (ap (λ (j : ℕ). is_wounded (bare t.stations j).phase) (sym ok.1) ∙ sym c.is_wounded.ensures ∙ c.if-is_wounded.true) in λ _.
    accepted_step g.K.Kind.applied (GiveUp s) before _ _ ok.0 (sym told.0)
    (table_of_all (ap (stations_with drafts) (frees.stations ∙ ap (λ (j : ℕ). change freed j t.stations) ok.1) ∙ freed_view drafts t.stations s (omega (arith, low, t.full)))
    frees.stamps frees.commits refl refl ∙ sym told.1)

pub returns-else-is_wounded-clause-ruled : goal.returns-else-is_wounded-clause-ruled
returns-else-is_wounded-clause-ruled g c =
    let e = c.args.self.now in let show = g.S.Shelf.rows e.show in let drafts = g.D.Shelf.rows e.drafts in
    let t = e.locks in let s = c.args.station in let before = view g.K.Kind g.S.Shelf g.D.Shelf e in let old = stations_of g.K.Kind g.D.Shelf e in
    let w = c.withdraw.new.self in let rest = c.withdraw.ensures.rest in
    let ok = admission_of s c.in_ok-s.s _ (sym c.in_ok-s.was ∙ c.admit_give_up.ensures) in
    let told = give_up_at_work g.K.Kind.applied before s (ap (λ (j : ℕ). is_wounded (bare t.stations j).phase) (sym ok.1) ∙ sym c.is_wounded.ensures ∙ c.if-is_wounded.false) in λ orderly.
    accepted_step g.K.Kind.applied (GiveUp s) before _ _ ok.0
    (ap Number (c.withdraw.ensures.number ∙ ap (λ (i : ℕ). count_below 16 (λ j. not (eqb j i) && wounded_by_give_up old i j)) ok.1) ∙ sym told.0)
    (ap (λ x. table_from g.K.Kind.home (g.S.Shelf.rows x) (g.D.Shelf.rows w.drafts) w.locks) rest.same_show
    ∙ table_of_all
    (c.withdraw.ensures.stations (orderly_served g.K.Kind.home show drafts t orderly) ∙ ap (λ (i : ℕ). settle (shown g.K.Kind g.S.Shelf e) (put (wound (wounded_by_give_up old i) old) i idle_station)) ok.1)
    rest.same_stamp rest.same_commits refl (ap (records_of (length show)) rest.kept_drafts.same_count) ∙ sym told.1)
