use Rattle.std.proofs.Common.{◌≡◌, ℕ, cond, not, get_or, Some, None, Option, sym, ap, ◌∙◌}
use Rattle.rules.specs.declared.Mode.{Mode}
use Rattle.rules.specs.declared.Mode.TheVariants.{Shared}
use Rattle.rules.specs.declared.Refusal.{Refusal}
use Rattle.rules.specs.declared.Refusal.TheVariants as refusal
use Rattle.rules.specs.Tables.{conflict}
use Rattle.locks.specs.Hand.{no_hold}
use Rattle.locks.specs.View.{hand_at}
use Rattle.locks.proofs.Kept.{same_read}
use Rattle.locks.proofs.Refusals.{change_by_mode}
use Rattle.locks.proofs.table.LockTable.admit_change.Goals as goal

-- refused as shared or not, by the mode
by_mode : Mode → Option Refusal
by_mode mode = cond (not (conflict Shared mode)) (Some refusal.Shared) None

pub returns-in-Shared-clause-refusal : goal.returns-in-Shared-clause-refusal
unfolding by_mode
returns-in-Shared-clause-refusal c =
    let t = c.args.self.now in
    let k = c.in_ok-i.k in
    let hold = c.in_ok-i.ensures.place in
    let mode : ℕ → Mode = λ j. (get_or (hand_at t.stations j) k no_hold).mode in
    let seen : c.deref.result.now ≡ hand_at t.stations c.in_ok-i.i = c.deref.ensures.0 ∙ ap (λ s. s.hand.items) (same_read t.stations c.in_ok-i.i _ hold.station_below t.full) in
    sym (change_by_mode t c.args.s c.args.at c.args.records (Some k) c.in_ok-i.ensures.refusal hold.place
    ∙ ap (λ j. by_mode (mode j)) (sym hold.station) ∙ ap (λ hs. by_mode (get_or hs k no_hold).mode) (sym seen) ∙ ap by_mode c.in-Shared.is)

pub returns-in-Exclusive-clause-refusal : goal.returns-in-Exclusive-clause-refusal
unfolding by_mode
returns-in-Exclusive-clause-refusal c =
    let t = c.args.self.now in
    let k = c.in_ok-i.k in
    let hold = c.in_ok-i.ensures.place in
    let mode : ℕ → Mode = λ j. (get_or (hand_at t.stations j) k no_hold).mode in
    let seen : c.deref.result.now ≡ hand_at t.stations c.in_ok-i.i = c.deref.ensures.0 ∙ ap (λ s. s.hand.items) (same_read t.stations c.in_ok-i.i _ hold.station_below t.full) in
    sym (change_by_mode t c.args.s c.args.at c.args.records (Some k) c.in_ok-i.ensures.refusal hold.place
    ∙ ap (λ j. by_mode (mode j)) (sym hold.station) ∙ ap (λ hs. by_mode (get_or hs k no_hold).mode) (sym seen) ∙ ap by_mode c.in-Exclusive.is)
