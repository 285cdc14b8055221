-- Take, in the view.
use Rattle.std.proofs.Common.{◌≡◌, ℕ, ◌<◌, Bool, true, cond, List, length, get_or, None, Option, sym, refl, ap, ◌∙◌, subst, arith, leb-false}
use Rattle.rules.specs.declared.Mode.{Mode}
use Rattle.rules.specs.declared.Refusal.{Refusal}
use Rattle.rules.specs.declared.Outcome.{Outcome}
use Rattle.rules.specs.declared.Outcome.TheVariants.{Granted, Waits}
use Rattle.rules.specs.declared.Call.TheVariants.{Take}
use Rattle.rules.specs.declared.Answer.TheVariants.{Taken}
use Rattle.rules.specs.Searches.{count_below}
use Rattle.rules.specs.Tables.{Station, Stations, running, is_waiting, wounded_station}
use Rattle.rules.specs.Operations.{widen, wound, must_yield, wounded_by_take, add_wait, settle}
use Rattle.rules.specs.Calls.{refusals, first_refusal, step, after, answer}
use Rattle.rules.proofs.Admission.{all_tests_fail, take_admitted}
use Rattle.rules.proofs.Spared.{taker_spared}
use Rattle.locks.specs.declared.station.Station as code
use Rattle.locks.specs.declared.table.LockTable.{LockTable}
use Rattle.locks.specs.View.{bare, no_station, hand_at, stations_with, active}
use Rattle.locks.specs.Admission.{table_with, refused}
use Rattle.locks.specs.Changes.{change, awaiting, wounded_below}
use Rattle.locks.proofs.Drafts.{take_same, widen_same, must_yield_same}
use Rattle.locks.proofs.Hands.{hand_length}
use Rattle.locks.proofs.ChangedViews.{wounded_view, wounded_length, awaiting_view, must_yield_active, widened_active}
use Rattle.engine.specs.View.{records_of, show_of, drafts_of, table_from}
use Rattle.engine.specs.Answers.{taken}
use Rattle.engine.specs.Promoting.{RowsFor}
use Rattle.engine.proofs.Steps.{table_of_all, accepted_step}
use Rattle.engine.proofs.Holders.{rows_fit}

-- a take is refused in the view as in the lock table
pub take_refusal : {V : Type 0} (C : Type 0) (drafts : ℕ → ℕ → V) (show : ℕ → V) (t : LockTable) (s r n m : ℕ) (mode : Mode) (o : Option Refusal) → n ≡ m → o ≡ refused 0 (Take s r mode) t n
    → first_refusal (refusals {C = C} 0 (Take s r mode) (table_with drafts show t m)) ≡ o
take_refusal C drafts show t s r n m mode o e h = ap first_refusal (take_same C (Unit {0}) drafts (λ i k. tt) show (λ q. tt) t m 0 s r mode) ∙ sym (h ∙ ap (λ (k : ℕ). refused 0 (Take s r mode) t k) e)

module _ {V : Type 0} (drafts : ℕ → ℕ → V) (t : LockTable) (s r : ℕ) (m : Mode) (first members : ℕ → Bool)
    (yield : first ≡ must_yield (bare t.stations) s r m) (widened : members ≡ widen (bare t.stations) first) where
  -- whom the code wounds is whom the rules wound
  pub wounded_set : members ≡ wounded_by_take (stations_with drafts t.stations) s r m
  unfolding wounded_by_take
  wounded_set =
      widened ∙ ap (widen (bare t.stations)) yield
      ∙ sym (widen_same drafts (λ i k. tt {0}) t.stations (must_yield (bare t.stations) s r m))
      ∙ ap (widen (stations_with drafts t.stations)) (sym (must_yield_same drafts (λ i k. tt {0}) t.stations s r m))

  -- the wounded have an attempt
  wounded_act : (i : ℕ) → members i ≡ true → active (get_or t.stations i no_station) ≡ true
  unfolding wounded_by_take
  wounded_act i e =
      widened_active drafts t.stations (must_yield (stations_with drafts t.stations) s r m) (must_yield_active drafts t.stations s r m) i
      (ap (λ (f : ℕ → Bool). f i) (sym wounded_set) ∙ e)

  -- the stations after the wounding
  after_wounding : stations_with drafts (wounded_below 16 members t.stations) ≡ wound (wounded_by_take (stations_with drafts t.stations) s r m) (stations_with drafts t.stations)
  after_wounding = wounded_view drafts t.stations members t.full wounded_act ∙ ap (λ (f : ℕ → Bool). wound f (stations_with drafts t.stations)) wounded_set

  -- the taker is as before
  taker_same : stations_with drafts (wounded_below 16 members t.stations) s ≡ stations_with drafts t.stations s
  unfolding wound wounded_by_take
  taker_same =
      ap (λ (u : Stations V). u s) after_wounding
      ∙ ap (λ (b : Bool). cond b (wounded_station (stations_with drafts t.stations s)) (stations_with drafts t.stations s)) (taker_spared (stations_with drafts t.stations) s r m)

  -- the stations with the wait of the taker added
  taken_view : s < 16 → (stations_with drafts t.stations s).phase ≡ running → length (stations_with drafts t.stations s).hand < 16
      → stations_with drafts (change (awaiting r m) s (wounded_below 16 members t.stations))
      ≡ add_wait (wound (wounded_by_take (stations_with drafts t.stations) s r m) (stations_with drafts t.stations)) s r m
  taken_view low runs room =
      let ys = wounded_below 16 members t.stations in
      let long : length ys ≡ 16 = wounded_length members t.stations 16 ∙ t.full in
      let held = hand_length (drafts s) (hand_at ys s) (length (hand_at ys s)) in
      let same = ap (λ (x : Station V). length x.hand) taker_same in
      awaiting_view drafts ys s r m (omega (arith, low, long)) (ap (λ (x : Station V). x.phase) taker_same ∙ runs) (omega (arith, held, same, room))
      ∙ ap (λ (u : Stations V). add_wait u s r m) after_wounding

-- where there is a record, every wait is served
pub fit_served : {V : Type 0} (xs : List code.Station) (drafts : List V) (show r n : ℕ) → n ≡ records_of show (length drafts) → r < n → RowsFor xs drafts
fit_served xs drafts show r n e low i p w = rows_fit show (length drafts) r (subst (λ (k : ℕ). r < k) e low)

module _ {V C : Type 0} (apply : V → C → V) (home : V) (show drafts rows : List V) (t u v w : LockTable) (s i r n : ℕ) (m : Mode) (first members : ℕ → Bool)
    (none : refused 0 (Take s r m) t n ≡ None) (records : n ≡ records_of (length show) (length drafts)) (at_s : i ≡ s)
    (yield : first ≡ must_yield (bare t.stations) i r m) (widened : members ≡ widen (bare t.stations) first)
    (wounds : u.stations ≡ wounded_below 16 members t.stations) (waits : v.stations ≡ change (awaiting r m) i u.stations)
    (settles : RowsFor v.stations drafts → stations_with (drafts_of home rows) w.stations ≡ settle (show_of home show) (stations_with (drafts_of home drafts) v.stations))
    (long : length rows ≡ length drafts) (next : w.next ≡ t.next) (commits : w.commits ≡ t.commits) where
  -- the take is not refused in the view
  take_accepted : first_refusal (refusals {C = C} 0 (Take s r m) (table_from home show drafts t)) ≡ None
  take_accepted = take_refusal C (drafts_of home drafts) (show_of home show) t s r n (records_of (length show) (length drafts)) m None records (sym none)

  -- the stations that it leaves are those of the rules
  taken_stations : stations_with (drafts_of home rows) w.stations ≡ (after apply (Take s r m) (table_from home show drafts t)).stations
  taken_stations =
      let ok = take_admitted C 0 (table_from home show drafts t) s r m take_accepted in
      let below = (all_tests_fail (refusals {C = C} 0 (Take s r m) (table_from home show drafts t)) take_accepted).0 in
      let yields = yield ∙ ap (λ (j : ℕ). must_yield (bare t.stations) j r m) at_s in
      settles (fit_served v.stations drafts (length show) r (records_of (length show) (length drafts)) refl ok.1)
      ∙ ap (λ l. settle (show_of home show) (stations_with (drafts_of home drafts) l)) (waits ∙ ap (λ (j : ℕ). change (awaiting r m) j u.stations) at_s ∙ ap (change (awaiting r m) s) wounds)
      ∙ ap (settle (show_of home show)) (taken_view (drafts_of home drafts) t s r m first members yields widened (leb-false 16 s below) ok.0 ok.3)

  -- and so is the table
  taken_table : table_from home show rows w ≡ after apply (Take s r m) (table_from home show drafts t)
  taken_table = table_of_all (taken_stations) next commits refl (ap (records_of (length show)) long)

  -- the answer is that of the rules
  taken_answer : (o : Outcome) (k : ℕ) → o ≡ cond (is_waiting (bare w.stations i).phase) Waits Granted → k ≡ count_below 16 members
      → taken {V = V} (o, k) ≡ answer apply (Take s r m) (table_from home show drafts t)
  taken_answer o k told counted =
      let yields = yield ∙ ap (λ (j : ℕ). must_yield (bare t.stations) j r m) at_s in
      ap (λ (x : Outcome). Taken x k) (told ∙ ap (λ (j : ℕ). cond (is_waiting (bare w.stations j).phase) Waits Granted) at_s
      ∙ ap (λ (x : Stations V). cond (is_waiting (x s).phase) Waits Granted) taken_stations)
      ∙ ap (Taken (cond (is_waiting ((after apply (Take s r m) (table_from home show drafts t)).stations s).phase) Waits Granted))
      (counted ∙ ap (count_below 16) (wounded_set (drafts_of home drafts) t s r m first members yields widened))

  -- so the take goes as the rules say
  pub taken_step : (o : Outcome) (k : ℕ) → o ≡ cond (is_waiting (bare w.stations i).phase) Waits Granted → k ≡ count_below 16 members
      → (taken (o, k), table_from home show rows w) ≡ step apply 0 (Take s r m) (table_from home show drafts t)
  taken_step o k told counted = accepted_step apply (Take s r m) (table_from home show drafts t) _ _ take_accepted (taken_answer o k told counted) taken_table
