use Rattle.std.proofs.Common.{◌≤◌, leb, eqb, length, is_some, Some, None, Ok, sym, ap, ◌∙◌, subst, arith}
use Rattle.std.proofs.lemmas.Bool.{le-leb, lt-leb, cond-true, cond-false, eqb-true, eqb-false}
use Rattle.rules.specs.declared.Refusal.TheVariants as refusal
use Rattle.rules.specs.Tables.{hold_on}
use Rattle.locks.specs.View.{hand_at, held_by}
use Rattle.locks.specs.Admission.{admitted}
use Rattle.locks.proofs.Kept.{same_read, read_as}
use Rattle.locks.proofs.Refusals.{take_by_hand, named_station, station_below}
use Rattle.locks.proofs.table.LockTable.admit_take.Goals as goal

pub returns-then-is_full : goal.returns-then-is_full
returns-then-is_full c m =
    let t = c.args.self.now in
    let i = c.in_ok-i.i in
    let low = station_below t c.args.s i c.args.at c.args.records c.in_ok-i.ensures in
    let free = read_as (λ s. is_some (hold_on c.args.at (held_by s))) t.stations i _ _ low c.if-holds.ensures t.full in
    let full = eqb-true _ _ (sym (read_as (λ s. eqb (length s.hand.items) 16) t.stations i _ _ low c.if-is_full.ensures.value t.full)) in
    let e = take_by_hand t c.args.s i c.args.at c.args.records c.in_ok-i.ensures m free
    ∙ cond-true (leb 16 (length (hand_at t.stations i))) (Some refusal.Hand) None (le-leb 16 (length (hand_at t.stations i)) (omega (arith, full))) in
    ap (admitted c.args.s) (sym e)

pub returns-else-is_full : goal.returns-else-is_full
returns-else-is_full c m =
    let t = c.args.self.now in
    let i = c.in_ok-i.i in
    let low = station_below t c.args.s i c.args.at c.args.records c.in_ok-i.ensures in
    let free = read_as (λ s. is_some (hold_on c.args.at (held_by s))) t.stations i _ _ low c.if-holds.ensures t.full in
    let room = eqb-false _ _ (sym (read_as (λ s. eqb (length s.hand.items) 16) t.stations i _ _ low c.if-is_full.ensures.value t.full)) in
    let fits : length (hand_at t.stations i) ≤ 16 = subst (λ s. length s.hand.items ≤ 16) (same_read t.stations i _ low t.full) c.if-is_full.ensures.fits in
    let e = take_by_hand t c.args.s i c.args.at c.args.records c.in_ok-i.ensures m free
    ∙ cond-false (leb 16 (length (hand_at t.stations i))) (Some refusal.Hand) None (lt-leb 16 (length (hand_at t.stations i)) (omega (arith, room, fits))) in
    ap Ok (named_station t c.args.s i c.args.at c.args.records c.in_ok-i.ensures) ∙ ap (admitted c.args.s) (sym e)
