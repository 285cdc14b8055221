-- Give up, in the view.
use Rattle.std.proofs.Common.{◌≡◌, ℕ, zero, suc, ◌<◌, ◌≤◌, Bool, true, false, cond, not, ◌&&◌, eqb, ltb, List, length, get_or, Some, None, sym, ap, ◌∙◌, arith, leb-false}
use mathlib.Core.Path.{fun_ext}
use Rattle.std.proofs.Math.Bool.{and_comm}
use Rattle.std.proofs.lemmas.Bool.Decides.{nat_tests}
use Rattle.std.proofs.lemmas.Grind.{common_steps}
use Rattle.std.proofs.lemmas.Bool.{eqb-true}
use Rattle.rules.specs.declared.Mode.{Mode}
use Rattle.rules.specs.declared.Call.TheVariants.{GiveUp}
use Rattle.rules.specs.declared.Answer.TheVariants.{Number}
use Rattle.rules.specs.Searches.{count_below}
use Rattle.rules.specs.Tables as rules
use Rattle.rules.specs.Tables.{Stations, Table, is_idle, is_wounded, idle_station, put, with_stations}
use Rattle.rules.specs.Operations.{widen, wound, wounded_by_give_up, settle}
use Rattle.rules.specs.Calls.{refusals, first_refusal, after, answer}
use Rattle.rules.specs.Orderly.{Orderly}
use Rattle.rules.proofs.Admission.{all_tests_fail}
use Rattle.locks.specs.declared.station.Phase.{Phase}
use Rattle.locks.specs.declared.station.Station.{Station}
use Rattle.locks.specs.declared.table.LockTable.{LockTable}
use Rattle.locks.specs.View.{bare, no_station, phase_of, stations_with, awaited_in, awaited_at, active, active_at}
use Rattle.locks.specs.Changes.{change, freed, wounded, wounded_below}
use Rattle.locks.proofs.Drafts.{widen_same}
use Rattle.locks.proofs.ChangedViews.{wounded_view, wounded_length, freed_view, widened_active}
use Rattle.engine.specs.View.{table_from}
use Rattle.engine.specs.Promoting.{RowsFor}
use Rattle.engine.proofs.Holders.{rows_fit}
use Rattle.engine.proofs.Grants.{NoNewWait, waits_before}

-- a freed station waits for nothing
pub freed_waits_not : NoNewWait freed
freed_waits_not x p e = absurd cc

-- nor does a wounded one
wounded_waits_not : NoNewWait wounded
wounded_waits_not x p e = grind (arith, common_steps)

-- after a wounding nobody waits who did not before
wounding_waits_not : (members : ℕ → Bool) (xs : List Station) (n i : ℕ) (p : ℕ × Mode) → n ≤ length xs → Some p ≡ awaited_at (wounded_below n members xs) i → Some p ≡ awaited_at xs i
unfolding wounded_below
wounding_waits_not members xs zero i p l e = e
wounding_waits_not members xs (suc n) i p l e = go (members n) e (wounding_waits_not members xs n i p (omega arith))
  where
    ys : List Station
    ys = wounded_below n members xs

    go : (b : Bool) → Some p ≡ awaited_at (cond b (change wounded n ys) ys) i → (Some p ≡ awaited_at ys i → Some p ≡ awaited_at xs i) → Some p ≡ awaited_at xs i
    go true e ih = ih (waits_before wounded wounded_waits_not ys n i p (let long = wounded_length members xs n in omega (arith, long, l)) e)
    go false e ih = ih e

-- a station that waits, in the rules' words
waits_in_rules : (q : Phase) (p : ℕ × Mode) → Some p ≡ awaited_in q → phase_of q ≡ rules.waiting p.0 p.1
waits_in_rules q p e = grind (arith, common_steps)

-- in an orderly table every wait is served
pub orderly_served : {V : Type 0} (home : V) (show drafts : List V) (t : LockTable) → Orderly (table_from home show drafts t) → RowsFor t.stations drafts
orderly_served home show drafts t orderly i p w =
    rows_fit (length show) (length drafts) p.0 (orderly.awaited_inside i p.0 p.1 (waits_in_rules (get_or t.stations i no_station).phase p w))

module _ {V : Type 0} (drafts : ℕ → ℕ → V) (t u v : LockTable) (s : ℕ) (own members : ℕ → Bool) (low : s < 16) (acts : active_at t.stations s ≡ true)
    (alone : own ≡ (λ j. ltb j 16 && eqb j s)) (widened : members ≡ widen (bare t.stations) own)
    (wounds : u.stations ≡ wounded_below 16 members t.stations) (frees : v.stations ≡ change freed s u.stations) where
  -- the station alone
  just_own : ◌≡◌ {A = ℕ → Bool} (λ j. ltb j 16 && eqb j s) (λ j. eqb j s)
  just_own = fun_ext (λ (j : ℕ). grind (arith, nat_tests))

  -- whom the code wounds is whom the rules wound
  pub withdrawn_set : members ≡ wounded_by_give_up (stations_with drafts t.stations) s
  unfolding wounded_by_give_up
  withdrawn_set =
      widened ∙ ap (widen (bare t.stations)) (alone ∙ just_own) ∙ sym (widen_same drafts (λ i k. tt {0}) t.stations (λ j. eqb j s))

  -- the wounded have an attempt
  withdrawn_act : (i : ℕ) → members i ≡ true → active (get_or t.stations i no_station) ≡ true
  unfolding wounded_by_give_up
  withdrawn_act i e =
      widened_active drafts t.stations (λ j. eqb j s) (λ j q. ap (λ (k : ℕ). active (get_or t.stations k no_station)) (eqb-true j s q) ∙ acts) i
      (ap (λ (f : ℕ → Bool). f i) (sym withdrawn_set) ∙ e)

  -- the stations after the wounding, with the station idle
  pub withdrawn_view : stations_with drafts v.stations ≡ put (wound (wounded_by_give_up (stations_with drafts t.stations) s) (stations_with drafts t.stations)) s idle_station
  withdrawn_view =
      let ys = wounded_below 16 members t.stations in
      let long : length ys ≡ 16 = wounded_length members t.stations 16 ∙ t.full in
      ap (stations_with drafts) (frees ∙ ap (change freed s) wounds) ∙ freed_view drafts ys s (omega (arith, low, long))
      ∙ ap (λ (x : Stations V). put x s idle_station)
      (wounded_view drafts t.stations members t.full withdrawn_act ∙ ap (λ (f : ℕ → Bool). wound f (stations_with drafts t.stations)) withdrawn_set)

  -- every wait is still served
  pub withdrawn_served : {W : Type 0} (rows : List W) → RowsFor t.stations rows → RowsFor v.stations rows
  withdrawn_served rows served i p w =
      let ys = wounded_below 16 members t.stations in
      let long : length ys ≡ 16 = wounded_length members t.stations 16 ∙ t.full in
      let full : length t.stations ≡ 16 = t.full in
      served i p (wounding_waits_not members t.stations 16 i p (omega (arith, full))
      (waits_before freed freed_waits_not ys s i p (omega (arith, low, long)) (w ∙ ap (λ (l : List Station). awaited_at l i) (frees ∙ ap (change freed s) wounds))))

  -- the others are counted
  pub others_counted : (n : ℕ) → n ≡ count_below 16 (λ j. members j && not (own j))
      → n ≡ count_below 16 (λ j. not (eqb j s) && wounded_by_give_up (stations_with drafts t.stations) s j)
  others_counted n e =
      e ∙ ap (λ (f : ℕ → Bool). count_below 16 (λ j. f j && not (own j))) withdrawn_set
      ∙ ap (λ (f : ℕ → Bool). count_below 16 (λ j. wounded_by_give_up (stations_with drafts t.stations) s j && not (f j))) (alone ∙ just_own)
      ∙ ap (count_below 16) (fun_ext (λ j. and_comm (wounded_by_give_up (stations_with drafts t.stations) s j) (not (eqb j s))))

-- an admitted give up has a station with an attempt
pub give_up_acts : {V : Type 0} (C : Type 0) (t : Table V) (s : ℕ) → first_refusal (refusals {C = C} 0 (GiveUp s) t) ≡ None → (s < 16) × (not (is_idle (t.stations s).phase) ≡ true)
give_up_acts C t s e = let tests = all_tests_fail (refusals {C = C} 0 (GiveUp s) t) e in (leb-false 16 s tests.0, ap not tests.1.0)

module _ {V C : Type 0} (apply : V → C → V) (t : Table V) (s : ℕ) where
  -- what the rules leave of a wounded station that gives up, and answer
  pub give_up_wounded : is_wounded (t.stations s).phase ≡ true → (answer apply (GiveUp s) t ≡ Number 0) × (after apply (GiveUp s) t ≡ with_stations t (put t.stations s idle_station))
  give_up_wounded e = (
    ap (λ (b : Bool). cond b (Number 0) (Number (count_below 16 (λ j. not (eqb j s) && wounded_by_give_up t.stations s j)))) e,
    ap (λ (b : Bool). cond b (with_stations t (put t.stations s idle_station)) (with_stations t (settle t.show (put (wound (wounded_by_give_up t.stations s) t.stations) s idle_station)))) e,
  )

  -- and of one at work
  pub give_up_at_work : is_wounded (t.stations s).phase ≡ false
      → (answer apply (GiveUp s) t ≡ Number (count_below 16 (λ j. not (eqb j s) && wounded_by_give_up t.stations s j)))
      × (after apply (GiveUp s) t ≡ with_stations t (settle t.show (put (wound (wounded_by_give_up t.stations s) t.stations) s idle_station)))
  give_up_at_work e = (
    ap (λ (b : Bool). cond b (Number 0) (Number (count_below 16 (λ j. not (eqb j s) && wounded_by_give_up t.stations s j)))) e,
    ap (λ (b : Bool). cond b (with_stations t (put t.stations s idle_station)) (with_stations t (settle t.show (put (wound (wounded_by_give_up t.stations s) t.stations) s idle_station)))) e,
  )
