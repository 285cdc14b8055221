use Rattle.std.proofs.Common.{◌≡◌, ◌<◌, cond, not, length, get_or, Some, None, Option, sym, ap, ◌∙◌, subst}
use Rattle.rules.specs.declared.Refusal.{Refusal}
use Rattle.rules.specs.declared.Refusal.TheVariants as refusal
use Rattle.rules.specs.declared.Stage.{Stage}
use Rattle.rules.specs.Tables.{is_owned}
use Rattle.locks.specs.Hand.{no_hold}
use Rattle.locks.specs.View.{hand_at, place_on}
use Rattle.locks.proofs.Kept.{same_read, read_as}
use Rattle.locks.proofs.Refusals.{look_by_hold, named_station, station_below}
use Rattle.locks.proofs.table.LockTable.admit_hold.Goals as goal

-- owned or not, by the stage
by_stage : Stage → Option Refusal
by_stage stage = cond (not (is_owned stage)) (Some refusal.Unowned) None

pub returns-in_default : goal.returns-in_default
returns-in_default c =
    let t = c.args.self.now in
    let i = c.in_ok-i.i in
    let low = station_below t c.args.s i c.args.at c.args.records c.in_ok-i.ensures in
    let place = read_as (λ s. place_on c.args.at s.hand.items (length s.hand.items)) t.stations i _ _ low c.in_default.ensures.place t.full in
    record { refusal = sym (look_by_hold t c.args.s i c.args.at c.args.records c.in_ok-i.ensures None place); place = tt }

pub returns-in-Owned : goal.returns-in-Owned
unfolding by_stage
returns-in-Owned c =
    let t = c.args.self.now in
    let i = c.in_ok-i.i in
    let k = c.in-Some.k in
    let e = named_station t c.args.s i c.args.at c.args.records c.in_ok-i.ensures in
    let low = station_below t c.args.s i c.args.at c.args.records c.in_ok-i.ensures in
    let place = read_as (λ s. place_on c.args.at s.hand.items (length s.hand.items)) t.stations i _ _ low c.in-Some.ensures.place t.full in
    let within : k < length (hand_at t.stations i) = subst (λ s. k < length s.hand.items) (same_read t.stations i _ low t.full) c.in-Some.ensures.within in
    let seen : c.deref.result.now ≡ hand_at t.stations i = c.deref.ensures.0 ∙ ap (λ s. s.hand.items) (same_read t.stations i _ low t.full) in
    record {
      refusal = sym (look_by_hold t c.args.s i c.args.at c.args.records c.in_ok-i.ensures (Some k) place ∙ ap (λ hs. by_stage (get_or hs k no_hold).stage) (sym seen) ∙ ap by_stage c.in-Owned.is);
      place = record {
        station = e;
        station_below = low;
        place = place ∙ ap (λ j. place_on c.args.at (hand_at t.stations j) (length (hand_at t.stations j))) e;
        place_below = subst (λ j. k < length (hand_at t.stations j)) e within;
      };
    }

pub returns-in-Retired : goal.returns-in-Retired
unfolding by_stage
returns-in-Retired c =
    let t = c.args.self.now in
    let i = c.in_ok-i.i in
    let k = c.in-Some.k in
    let low = station_below t c.args.s i c.args.at c.args.records c.in_ok-i.ensures in
    let place = read_as (λ s. place_on c.args.at s.hand.items (length s.hand.items)) t.stations i _ _ low c.in-Some.ensures.place t.full in
    let seen : c.deref.result.now ≡ hand_at t.stations i = c.deref.ensures.0 ∙ ap (λ s. s.hand.items) (same_read t.stations i _ low t.full) in
    record {
      refusal = sym (look_by_hold t c.args.s i c.args.at c.args.records c.in_ok-i.ensures (Some k) place ∙ ap (λ hs. by_stage (get_or hs k no_hold).stage) (sym seen) ∙ ap by_stage c.in-Retired.is);
      place = tt;
    }
