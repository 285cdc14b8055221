use Rattle.std.proofs.Common.{map, length, get_or, sym, ap, ◌∙◌, subst, arith}
use Rattle.std.proofs.lemmas.List.{get_or_default}
use Rattle.rules.specs.Calls.{opened}
use Rattle.engine.specs.View.{show_of, records_of, view}
use Rattle.engine.specs.Answers.{Kept}
use Rattle.engine.proofs.Steps.{kept_same, kept_both}
use Rattle.runs.specs.declared.played.Played.{Played}
use Rattle.runs.specs.LawfulRun.{call_of, LawfulRun}
use Rattle.runs.proofs.Histories.{no_entry}
use Rattle.runs.proofs.Lawful.{after_none, after_more, after_all}
use Rattle.runs.proofs.playing.play.Goals as goal

pub loop-entry-init : goal.loop-entry-init
loop-entry-init g c =
    let home = g.K.Kind.home in let e = c.open-engine.result in let opens = c.open-engine.ensures in
    let records = records_of (length (g.S.Shelf.rows e.show)) (length (g.D.Shelf.rows e.drafts)) in let show = show_of home (g.S.Shelf.rows e.show) in (
      after_none g.K.Kind.applied c.args.first records show _ (view g.K.Kind g.S.Shelf g.D.Shelf e)
          (opens.new
          ∙ ap (λ x. opened c.args.first (show_of home (g.S.Shelf.rows x)) (records_of (length (g.S.Shelf.rows x)) (length (g.D.Shelf.rows c.args.drafts)))) (sym opens.show)
          ∙ ap (λ x. opened c.args.first show (records_of (length (g.S.Shelf.rows e.show)) (length (g.D.Shelf.rows x)))) (sym opens.drafts)),
      kept_same _ e.show,
      kept_same _ e.drafts,
    )

pub loop-entry-preserved : goal.loop-entry-preserved
loop-entry-preserved g c =
    let home = g.K.Kind.home in let e = c.open-engine.result in
    let records = records_of (length (g.S.Shelf.rows e.show)) (length (g.D.Shelf.rows e.drafts)) in let show = show_of home (g.S.Shelf.rows e.show) in
    let i = c.loop-entry.entry-index in let long = c.loop-entry.auto.entry-items in let inv = c.loop-entry.invariant in let low = c.loop-entry-test.true in (
      after_more g.K.Kind.applied c.args.first records show _ c.loop-entry.entry-items i
          (view g.K.Kind g.S.Shelf g.D.Shelf c.loop-entry.engine) (view g.K.Kind g.S.Shelf g.D.Shelf c.answer.new.self)
          (get_or c.loop-entry.entry-items i c.entry-item.result).call c.answer.result inv.0 low
          (ap (λ (p : Played g.row.K-Value.Denot g.row.K-Change.Denot). p.call) (get_or_default c.loop-entry.entry-items i c.entry-item.result no_entry (omega (arith, low, long))))
          c.answer.ensures.ruled,
      kept_both inv.1 c.answer.ensures.show,
      kept_both inv.2 c.answer.ensures.drafts,
    )

pub returns : goal.returns
returns g c =
    let home = g.K.Kind.home in let e = c.open-engine.result in let opens = c.open-engine.ensures in
    let records = records_of (length (g.S.Shelf.rows e.show)) (length (g.D.Shelf.rows e.drafts)) in let show = show_of home (g.S.Shelf.rows e.show) in
    let inv = c.loop-entry.invariant in let left = view g.K.Kind g.S.Shelf g.D.Shelf c.loop-entry.engine in
    record {
      lawful =
          subst (λ x. LawfulRun g.K.Kind.applied (opened c.args.first (show_of home (g.S.Shelf.rows x)) (records_of (length (g.S.Shelf.rows x)) (length (g.D.Shelf.rows c.args.drafts)))) (map call_of c.args.script.now) c.loop-entry.entry-items left) opens.show
          (subst (λ x. LawfulRun g.K.Kind.applied (opened c.args.first show (records_of (length (g.S.Shelf.rows e.show)) (length (g.D.Shelf.rows x)))) (map call_of c.args.script.now) c.loop-entry.entry-items left) opens.drafts
          (after_all g.K.Kind.applied c.args.first records show c.args.script.now c.loop-entry.entry-items c.loop-entry.entry-index left inv.0 c.loop-entry-test.false c.loop-entry.auto.entry-index-end));
      show = subst (λ x. Kept g.S.Shelf x c.loop-entry.engine.show) opens.show inv.1;
      drafts = subst (λ x. Kept g.D.Shelf x c.loop-entry.engine.drafts) opens.drafts inv.2;
    }
