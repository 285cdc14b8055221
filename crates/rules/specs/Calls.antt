-- The eleven calls: each with its list of refusals, its answer, and the table that it leaves.
use Rattle.std.specs.Prelude.{ℕ, suc, Bool, false, cond, not, ◌&&◌, List, [], ◌∷◌, length, is_some, Some, None, Option, ◌==◌, nat_le, nat_lt}
use Rattle.rules.specs.declared.State.{State}
use Rattle.rules.specs.declared.State.TheVariants.{Idle, Running, Waiting, Wounded}
use Rattle.rules.specs.declared.Refusal.{Refusal}
use Rattle.rules.specs.declared.Standing.{Standing as StandingAnswer}
use Rattle.rules.specs.declared.Outcome.TheVariants.{Granted, Waits}
use Rattle.rules.specs.declared.Call.{Call}
use Rattle.rules.specs.declared.Call.TheVariants.{Begin, Take, Look, Change, Retire, Commit, GiveUp, Again, Standing, Plotted, Count}
use Rattle.rules.specs.declared.Answer.{Answer}
use Rattle.rules.specs.declared.Answer.TheVariants.{Refused, Number, Taken, Value, Committed, Stands}
use Rattle.rules.specs.Searches.{count_below}
use Rattle.rules.specs.Tables.{Hold, Phase, idle, running, wounded, waiting, Stations, Table, owned, is_idle, is_waiting, is_wounded, hold_on, idle_station, running_station, with_hand, put, with_stations}
use Rattle.rules.specs.Operations.{before, seen, bonds, wound, settle, wounded_by_take, wounded_by_give_up, add_wait, adjust, retired, redrafted}
use Rattle.rules.specs.declared.Refusal.TheVariants as refusal

-- Refusals.

-- the number of each refusal
abbrev pub refusal_number : Refusal → ℕ
refusal_number refusal.Station = 1
refusal_number refusal.Idle = 2
refusal_number refusal.Busy = 3
refusal_number refusal.Waiting = 4
refusal_number refusal.Wounded = 5
refusal_number refusal.Record = 6
refusal_number refusal.Held = 7
refusal_number refusal.Hand = 8
refusal_number refusal.Unowned = 9
refusal_number refusal.Shared = 10
refusal_number (refusal.Bound bonds station) = 11
refusal_number refusal.Spent = 12
refusal_number refusal.Sound = 13

-- the largest stamp
abbrev pub last_stamp : ℕ
last_stamp = 4000000000

-- is there an owned hold?
abbrev pub owns : {V : Type 0} → Option (Hold V) → Bool
owns None = false
owns (Some h) = owned h

-- is the hold, if there is one, shared?
abbrev pub only_shared : {V : Type 0} → Option (Hold V) → Bool
only_shared None = false
only_shared (Some h) = not (is_some h.draft)

-- Each test stands with the refusal that is given if it holds.

-- the record number is at or past the count
abbrev pub record_test : {V : Type 0} → Table V → ℕ → Bool × Refusal
record_test t r = (nat_le t.records r, refusal.Record)

-- the next stamp is above the last
abbrev pub spent_test : {V : Type 0} → Table V → Bool × Refusal
spent_test t = (nat_lt last_stamp t.next_stamp, refusal.Spent)

-- tests of station i
module _ {V : Type 0} (t : Table V) (i : ℕ) where
  -- the station number is above 15
  abbrev pub station_test : Bool × Refusal
  station_test = (nat_le 16 i, refusal.Station)

  -- the station has no attempt and is not wounded
  abbrev pub idle_test : Bool × Refusal
  idle_test = (is_idle (t.stations i).phase, refusal.Idle)

  -- the station is not idle
  abbrev pub busy_test : Bool × Refusal
  busy_test = (not (is_idle (t.stations i).phase), refusal.Busy)

  -- the station waits
  abbrev pub waiting_test : Bool × Refusal
  waiting_test = (is_waiting (t.stations i).phase, refusal.Waiting)

  -- the station is wounded
  abbrev pub wounded_test : Bool × Refusal
  wounded_test = (is_wounded (t.stations i).phase, refusal.Wounded)

  -- the station already holds the record, owned or retired
  abbrev pub held_test : ℕ → Bool × Refusal
  held_test r = (is_some (hold_on r (t.stations i).hand), refusal.Held)

  -- the station has sixteen holds
  abbrev pub hand_test : Bool × Refusal
  hand_test = (nat_le 16 (length (t.stations i).hand), refusal.Hand)

  -- the station has no owned hold on the record
  abbrev pub unowned_test : ℕ → Bool × Refusal
  unowned_test r = (not (owns (hold_on r (t.stations i).hand)), refusal.Unowned)

  -- the owned hold is shared
  abbrev pub shared_test : ℕ → Bool × Refusal
  shared_test r = (only_shared (hold_on r (t.stations i).hand), refusal.Shared)

  -- the attempt has bonds; the answer has them and names a station behind one
  abbrev pub bound_test : ℕ → Bool × Refusal
  bound_test named = (nat_lt 0 (bonds t.stations i), refusal.Bound (bonds t.stations i) named)

  -- the station is not wounded
  abbrev pub sound_test : Bool × Refusal
  sound_test = (not (is_wounded (t.stations i).phase), refusal.Sound)

-- the refusals of each call, in the order in which they are checked: the smallest number first. `named` is the station that a
-- refused commit names
abbrev pub refusals : {V C : Type 0} → ℕ → Call C → Table V → List (Bool × Refusal)
refusals named (Begin i) t = station_test t i ∷ busy_test t i ∷ spent_test t ∷ []
refusals named (Take i r m) t = station_test t i ∷ idle_test t i ∷ waiting_test t i ∷ wounded_test t i ∷ record_test t r ∷
    held_test t i r ∷ hand_test t i ∷ []
refusals named (Look i r) t = station_test t i ∷ idle_test t i ∷ waiting_test t i ∷ wounded_test t i ∷ record_test t r ∷
    unowned_test t i r ∷ []
refusals named (Change i r c) t = station_test t i ∷ idle_test t i ∷ waiting_test t i ∷ wounded_test t i ∷ record_test t r ∷
    unowned_test t i r ∷ shared_test t i r ∷ []
refusals named (Retire i r) t = station_test t i ∷ idle_test t i ∷ waiting_test t i ∷ wounded_test t i ∷ record_test t r ∷
    unowned_test t i r ∷ []
refusals named (Commit i) t = station_test t i ∷ idle_test t i ∷ waiting_test t i ∷ wounded_test t i ∷ bound_test t i named ∷ []
refusals named (GiveUp i) t = station_test t i ∷ idle_test t i ∷ []
refusals named (Again i) t = station_test t i ∷ sound_test t i ∷ []
refusals named (Standing i) t = station_test t i ∷ []
refusals named (Plotted r) t = record_test t r ∷ []
refusals named Count t = []

-- the refusal of the first test that holds
abbrev pub first_refusal : List (Bool × Refusal) → Option Refusal
first_refusal [] = None
first_refusal (p ∷ ps) = cond p.0 (Some p.1) (first_refusal ps)

-- Standing.

-- the state that standing tells
abbrev pub state_of : Phase → State
state_of idle = Idle
state_of running = Running
state_of wounded = Wounded
state_of (waiting r m) = Waiting

-- the stamp, unless the station is idle
abbrev pub stamp_of : Phase → ℕ → Option ℕ
stamp_of idle s = None
stamp_of running s = Some s
stamp_of wounded s = Some s
stamp_of (waiting r m) s = Some s

-- the record that the station waits for, if it waits
abbrev pub awaited : Phase → Option ℕ
awaited idle = None
awaited running = None
awaited wounded = None
awaited (waiting r m) = Some r

-- what standing tells of station i
abbrev pub standing_of : {V : Type 0} → Stations V → ℕ → StandingAnswer
standing_of t i = record {
  state = state_of (t i).phase;
  stamp = stamp_of (t i).phase (t i).stamp;
  bonds = bonds t i;
  awaits = awaited (t i).phase;
}

-- What each call leaves and answers, if it is not refused; `apply` applies a change to a value.

module _ {V C : Type 0} (apply : V → C → V) where
  -- the table that a call leaves
  abbrev pub after : Call C → Table V → Table V
  after (Begin i) t =
      record {
        stations = put t.stations i (running_station t.next_stamp []);
        next_stamp = suc t.next_stamp;
        commits = t.commits;
        show = t.show;
        records = t.records;
      }
  after (Take i r m) t = with_stations t
      (settle t.show (add_wait (wound (wounded_by_take t.stations i r m) t.stations) i r m))
  after (Look i r) t = t
  after (Change i r c) t =
      with_stations t
      (put t.stations i (with_hand (t.stations i) (adjust r (redrafted (λ v. apply v c)) (t.stations i).hand)))
  after (Retire i r) t =
      with_stations t
      (settle t.show (put t.stations i (with_hand (t.stations i) (adjust r retired (t.stations i).hand))))
  after (Commit i) t =
      record {
        stations = settle (seen (t.stations i).hand t.show) (put t.stations i idle_station);
        next_stamp = t.next_stamp;
        commits = suc t.commits;
        show = seen (t.stations i).hand t.show;
        records = t.records;
      }
  after (GiveUp i) t =
      cond (is_wounded (t.stations i).phase) (with_stations t (put t.stations i idle_station))
      (with_stations t (settle t.show (put (wound (wounded_by_give_up t.stations i) t.stations) i idle_station)))
  after (Again i) t = with_stations t (put t.stations i (running_station (t.stations i).stamp []))
  after (Standing i) t = t
  after (Plotted r) t = t
  after Count t = t

  -- the answer of a call
  abbrev pub answer : Call C → Table V → Answer V
  answer (Begin i) t = Number t.next_stamp
  answer (Take i r m) t =
      Taken (cond (is_waiting ((after (Take i r m) t).stations i).phase) Waits Granted)
      (count_below 16 (wounded_by_take t.stations i r m))
  answer (Look i r) t = Value (seen (t.stations i).hand (before t.stations t.show i) r)
  answer (Change i r c) t = Value (seen ((after (Change i r c) t).stations i).hand t.show r)
  answer (Retire i r) t =
      Number
      (count_below 16 (λ j. is_waiting (t.stations j).phase && not (is_waiting ((after (Retire i r) t).stations j).phase)))
  answer (Commit i) t = Committed (suc t.commits)
  answer (GiveUp i) t =
      cond (is_wounded (t.stations i).phase) (Number 0)
      (Number (count_below 16 (λ j. not (j == i) && wounded_by_give_up t.stations i j)))
  answer (Again i) t = Number (t.stations i).stamp
  answer (Standing i) t = Stands (standing_of t.stations i)
  answer (Plotted r) t = Value (t.show r)
  answer Count t = Number t.records

  -- a refused call answers its refusal and changes nothing
  abbrev pub outcome : Option Refusal → Call C → Table V → Answer V × Table V
  outcome (Some why) c t = (Refused why, t)
  outcome None c t = (answer c t, after c t)

  -- one call: its answer, and the table that it leaves
  unfoldable pub step : ℕ → Call C → Table V → Answer V × Table V
  step named c t = outcome (first_refusal (refusals named c t)) c t

-- a new table: all stations idle; first is the first stamp, and 0 counts as 1
abbrev pub opened : {V : Type 0} → ℕ → (ℕ → V) → ℕ → Table V
opened first show records = record
    { stations = λ i. idle_station; next_stamp = cond (first == 0) 1 first; commits = 0; show = show; records = records }
