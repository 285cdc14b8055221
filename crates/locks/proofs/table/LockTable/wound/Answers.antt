use Rattle.std.proofs.Common.{◌≡◌, length, set, sym, ap, ◌∙◌, subst, arith}
use Rattle.std.proofs.lemmas.List.{set-get_or}
use Rattle.locks.specs.View.{member_of}
use Rattle.locks.specs.Changes.{wounded, change, wounded_below}
use Rattle.locks.proofs.Kept.{Facts, wounded_kept, wounded_here, wounded_not_here, wounded_none, same_read}
use Rattle.locks.proofs.ChangedViews.{wounded_length}
use Rattle.locks.proofs.table.LockTable.wound.Goals as goal
use Rattle.locks.proofs.table.LockTable.wound.Goals.{then-contains, else-contains}

pub loop-s-init : goal.loop-s-init
loop-s-init c = wounded_none _ _

pub invariant_of-self : goal.invariant_of-self
invariant_of-self c =
    let t = c.args.self.now in
    subst (λ xs. Facts xs t.next t.commits) (sym c.loop-s.invariant) (wounded_kept c.loop-s.s c.loop-s.auto.s-end (member_of c.args.members.now) t.stations t.next t.commits t.full t.room t.stamped t.width)

pub loop-s-preserved : goal.loop-s-preserved
loop-s-preserved c =
    let members = member_of c.args.members.now in
    let xs = c.args.self.now.stations in
    let s = c.loop-s.s in
    let ys = c.loop-s.station-items in
    let full : length ys ≡ 16 = ap length c.loop-s.invariant ∙ wounded_length members xs s ∙ c.args.self.now.full in
    elim c.if-contains.branch [
      | then-contains w ↦
          w.station-items-is ∙ ap (set ys s) (w.wound.ensures ∙ ap wounded (same_read ys s _ c.loop-s-test.true full))
          ∙ ap (change wounded s) c.loop-s.invariant ∙ sym (wounded_here members xs s (sym w.if-contains.ensures))
      | else-contains w ↦
          let same : c.if-contains.station-items ≡ ys = w.station-items-is ∙ set-get_or ys s c.station-item.result in
          same ∙ c.loop-s.invariant ∙ sym (wounded_not_here members xs s (sym w.if-contains.ensures))
    ]

pub returns-clause-stations : goal.returns-clause-stations
returns-clause-stations c =
    c.loop-s.invariant ∙ ap (λ n. wounded_below n (member_of c.args.members.now) c.args.self.now.stations) (let end = c.loop-s.auto.s-end in let done = c.loop-s-test.false in omega arith)
