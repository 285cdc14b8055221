-- Retire, in the view.
use Rattle.std.proofs.Common.{◌≡◌, ℕ, ◌<◌, Bool, not, ◌&&◌, List, length, None, Option, sym, refl, ap, ◌∙◌, arith, leb-false}
use Rattle.rules.specs.declared.Refusal.{Refusal}
use Rattle.rules.specs.declared.Call.TheVariants.{Look, Retire}
use Rattle.rules.specs.declared.Answer.TheVariants.{Number}
use Rattle.rules.specs.Searches.{count_below}
use Rattle.rules.specs.Tables.{Stations, is_waiting}
use Rattle.rules.specs.Operations.{settle}
use Rattle.rules.specs.Calls.{refusals, first_refusal, step, after, answer}
use Rattle.rules.proofs.Admission.{all_tests_fail}
use Rattle.locks.specs.declared.table.LockTable.{LockTable}
use Rattle.locks.specs.View.{bare, stations_with}
use Rattle.locks.specs.Admission.{table_with, refused, HoldOf}
use Rattle.locks.specs.Changes.{change, retired_at}
use Rattle.locks.proofs.Drafts.{retire_same}
use Rattle.locks.proofs.ChangedViews.{retired_view}
use Rattle.engine.specs.View.{records_of, show_of, drafts_of, table_from}
use Rattle.engine.specs.Promoting.{RowsFor}
use Rattle.engine.proofs.Steps.{table_of_all, accepted_step}
use Rattle.engine.proofs.Takes.{fit_served}

-- a retire is refused in the view as a look is in the lock table
pub retire_refusal : {V : Type 0} (C : Type 0) (drafts : ℕ → ℕ → V) (show : ℕ → V) (t : LockTable) (s r n m : ℕ) (o : Option Refusal) → n ≡ m → o ≡ refused 0 (Look s r) t n
    → first_refusal (refusals {C = C} 0 (Retire s r) (table_with drafts show t m)) ≡ o
retire_refusal C drafts show t s r n m o e h = ap first_refusal (retire_same C (Unit {0}) drafts (λ i k. tt) show (λ q. tt) t m 0 s r) ∙ sym (h ∙ ap (λ (k : ℕ). refused 0 (Look s r) t k) e)

module _ {V C : Type 0} (apply : V → C → V) (home : V) (show drafts rows : List V) (t u w : LockTable) (s i k r n : ℕ)
    (none : refused 0 (Look s r) t n ≡ None) (records : n ≡ records_of (length show) (length drafts)) (hold : HoldOf t s r (i, k))
    (retires : u.stations ≡ change (retired_at k) i t.stations)
    (settles : RowsFor u.stations drafts → stations_with (drafts_of home rows) w.stations ≡ settle (show_of home show) (stations_with (drafts_of home drafts) u.stations))
    (long : length rows ≡ length drafts) (next : w.next ≡ t.next) (commits : w.commits ≡ t.commits) where
  -- the retire is not refused in the view
  retire_accepted : first_refusal (refusals {C = C} 0 (Retire s r) (table_from home show drafts t)) ≡ None
  retire_accepted = retire_refusal C (drafts_of home drafts) (show_of home show) t s r n (records_of (length show) (length drafts)) None records (sym none)

  -- the stations that it leaves are those of the rules
  retired_stations : stations_with (drafts_of home rows) w.stations ≡ (after apply (Retire s r) (table_from home show drafts t)).stations
  retired_stations =
      let tests = all_tests_fail (refusals {C = C} 0 (Retire s r) (table_from home show drafts t)) retire_accepted in
      let low : s < 16 = leb-false 16 s tests.0 in let full : length t.stations ≡ 16 = t.full in
      settles (fit_served u.stations drafts (length show) r (records_of (length show) (length drafts)) refl (leb-false (records_of (length show) (length drafts)) r tests.1.1.1.1.0))
      ∙ ap (λ l. settle (show_of home show) (stations_with (drafts_of home drafts) l)) (retires ∙ ap (λ (j : ℕ). change (retired_at k) j t.stations) hold.station)
      ∙ ap (settle (show_of home show)) (retired_view (drafts_of home drafts) t.stations s r k (omega arith) (sym hold.place))

  -- and so is the table
  retired_table : table_from home show rows w ≡ after apply (Retire s r) (table_from home show drafts t)
  retired_table = table_of_all retired_stations next commits refl (ap (records_of (length show)) long)

  -- the waits granted are counted
  retired_answer : (was is : ℕ → Bool) (m : ℕ) → was ≡ (λ j. is_waiting (bare t.stations j).phase) → is ≡ (λ j. is_waiting (bare w.stations j).phase)
      → m ≡ count_below 16 (λ j. was j && not (is j)) → Number m ≡ answer apply (Retire s r) (table_from home show drafts t)
  retired_answer was is m before then counted =
      ap Number (counted ∙ ap (λ (f : ℕ → Bool). count_below 16 (λ j. f j && not (is j))) before
      ∙ ap (λ (f : ℕ → Bool). count_below 16 (λ j. is_waiting (bare t.stations j).phase && not (f j))) then
      ∙ ap (λ (x : Stations V). count_below 16 (λ j. is_waiting (bare t.stations j).phase && not (is_waiting (x j).phase))) retired_stations)

  -- so the retire goes as the rules say
  pub retired_step : (was is : ℕ → Bool) (m : ℕ) → was ≡ (λ j. is_waiting (bare t.stations j).phase) → is ≡ (λ j. is_waiting (bare w.stations j).phase)
      → m ≡ count_below 16 (λ j. was j && not (is j)) → (Number m, table_from home show rows w) ≡ step apply 0 (Retire s r) (table_from home show drafts t)
  retired_step was is m before then counted =
      accepted_step apply (Retire s r) (table_from home show drafts t) _ _ retire_accepted (retired_answer was is m before then counted) retired_table
