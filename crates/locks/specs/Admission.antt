-- Which calls the rules admit on the table, with the drafts left out.
use Rattle.std.specs.Prelude.{◌≡◌, ℕ, ◌<◌, Bool, List, [], ◌∷◌, length, Some, None, Ok, Err, Option, Result}
use Rattle.rules.specs.declared.Refusal.{Refusal}
use Rattle.rules.specs.declared.Call.{Call}
use Rattle.rules.specs.Tables.{Table}
use Rattle.rules.specs.Calls.{refusals, first_refusal, station_test, idle_test, waiting_test, wounded_test, record_test}
use Rattle.locks.specs.declared.table.LockTable.{LockTable}
use Rattle.locks.specs.View.{stations_with, hand_at, place_on}

-- the table as the rules have it, with these drafts, these plotted values and so many records
abbrev pub table_with : {V : Type 0} → (ℕ → ℕ → V) → (ℕ → V) → LockTable → ℕ → Table V
table_with drafts show t records = record { stations = stations_with drafts t.stations; next_stamp = t.next; commits = t.commits; show = show; records = records }

-- the same with no values
abbrev pub table_of : LockTable → ℕ → Table (Unit {0})
table_of = table_with (λ i k. tt {0}) (λ r. tt {0})

-- the refusal of a call, if it is refused; `named` is the station that a refused commit names
abbrev pub refused : ℕ → Call (Unit {0}) → LockTable → ℕ → Option Refusal
refused named c t records = first_refusal (refusals named c (table_of t records))

-- the tests of the station in a call that only a running station may make
abbrev pub running_tests : LockTable → ℕ → List (Bool × Refusal)
running_tests t s = station_test (table_of t 0) s ∷ idle_test (table_of t 0) s ∷ waiting_test (table_of t 0) s ∷ wounded_test (table_of t 0) s ∷ []

-- the refusal that these tests give
abbrev pub not_running : LockTable → ℕ → Option Refusal
not_running t s = first_refusal (running_tests t s)

-- these tests and the test of the record
abbrev pub record_tests : LockTable → ℕ → ℕ → ℕ → List (Bool × Refusal)
record_tests t s r records = station_test (table_of t 0) s ∷ idle_test (table_of t 0) s ∷ waiting_test (table_of t 0) s ∷ wounded_test (table_of t 0) s ∷ record_test (table_of t records) r ∷ []

-- the refusal that these give
abbrev pub no_record : LockTable → ℕ → ℕ → ℕ → Option Refusal
no_record t s r records = first_refusal (record_tests t s r records)

-- the answer, unless there is a refusal
abbrev pub admitted : {A : Type 0} → A → Option Refusal → Result A Refusal
admitted x None = Ok x
admitted x (Some why) = Err why

-- the refusal in an answer, if it is one
abbrev pub refusal_in : {A : Type 0} → Result A Refusal → Option Refusal
refusal_in (Ok x) = None
refusal_in (Err why) = Some why

-- the station and place of a hold on record r
pub record HoldOf (t : LockTable) (s r : ℕ) (p : ℕ × ℕ) : Type 0 where
  pub station : p.0 ≡ s
  pub station_below : p.0 < 16
  pub place : Some p.1 ≡ place_on r (hand_at t.stations s) (length (hand_at t.stations s))
  pub place_below : p.1 < length (hand_at t.stations s)
