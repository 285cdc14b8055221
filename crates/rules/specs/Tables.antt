-- The lock table: what each station does and holds, and the questions that the rules put to it. Everything is over any
-- kind of value V.
use Rattle.std.specs.Prelude.{ℕ, Bool, true, false, cond, ◌&&◌, List, [], ◌∷◌, Some, None, Option, ◌==◌, nat_lt}
use Rattle.rules.specs.declared.Mode.{Mode}
use Rattle.rules.specs.declared.Mode.TheVariants.{Shared, Exclusive}
use Rattle.rules.specs.declared.Stage.{Stage}
use Rattle.rules.specs.declared.Stage.TheVariants.{Owned, Retired}

-- a hold of a station: the record, the draft, and how far it has come. An exclusive hold has a draft, a shared one none
pub record Hold (V : Type 0) : Type 0 where
  pub record_number : ℕ
  pub draft : Option V
  pub stage : Stage

-- what a station does; one that waits has the record that it waits for and the mode
pub data Phase : Type 0 where
  idle running wounded : Phase
  waiting : ℕ → Mode → Phase

-- a station: what it does, the stamp of its attempt (of no meaning while it is idle), and its holds
pub record Station (V : Type 0) : Type 0 where
  pub phase : Phase
  pub stamp : ℕ
  pub hand : List (Hold V)

-- the stations by their numbers; those from 16 on are always idle
abbrev pub Stations : Type 0 → Type 0
Stations V = ℕ → Station V

-- the whole table: the stations, the next stamp, the commits so far, the plotted values, and the number of records
pub record Table (V : Type 0) : Type 0 where
  pub stations : Stations V
  pub next_stamp : ℕ
  pub commits : ℕ
  pub show : ℕ → V
  pub records : ℕ

-- two modes conflict unless both are shared
abbrev pub conflict : Mode → Mode → Bool
conflict Shared Shared = false
conflict Shared Exclusive = true
conflict Exclusive m = true

-- the mode of a hold with this draft
abbrev pub mode_with : {V : Type 0} → Option V → Mode
mode_with None = Shared
mode_with (Some v) = Exclusive

-- the mode of a hold
abbrev pub hold_mode : {V : Type 0} → Hold V → Mode
hold_mode h = mode_with h.draft

-- is this the stage of an owned hold?
abbrev pub is_owned : Stage → Bool
is_owned Owned = true
is_owned Retired = false

-- is a hold owned?
abbrev pub owned : {V : Type 0} → Hold V → Bool
owned h = is_owned h.stage

-- is a station idle?
abbrev pub is_idle : Phase → Bool
is_idle idle = true
is_idle running = false
is_idle wounded = false
is_idle (waiting r m) = false

-- does a station wait?
abbrev pub is_waiting : Phase → Bool
is_waiting idle = false
is_waiting running = false
is_waiting wounded = false
is_waiting (waiting r m) = true

-- is a station wounded?
abbrev pub is_wounded : Phase → Bool
is_wounded idle = false
is_wounded running = false
is_wounded wounded = true
is_wounded (waiting r m) = false

-- an attempt is at work while its station runs or waits
abbrev pub works : Phase → Bool
works idle = false
works running = true
works wounded = false
works (waiting r m) = true

-- does a station wait for record r?
abbrev pub waits_for : Phase → ℕ → Bool
waits_for idle r = false
waits_for running r = false
waits_for wounded r = false
waits_for (waiting q m) r = q == r

-- the hold on record r in a hand
abbrev pub hold_on : {V : Type 0} → ℕ → List (Hold V) → Option (Hold V)
hold_on r [] = None
hold_on r (h ∷ hs) = cond (h.record_number == r) (Some h) (hold_on r hs)

-- the draft of a hold, if there is one
abbrev pub draft_in : {V : Type 0} → Option (Hold V) → Option V
draft_in None = None
draft_in (Some h) = h.draft

-- does a hold, if there is one, conflict with mode m?
abbrev pub conflicts : {V : Type 0} → Mode → Option (Hold V) → Bool
conflicts m None = false
conflicts m (Some h) = conflict m (hold_mode h)

-- does an owned hold, if there is one, conflict with mode m?
abbrev pub owned_conflicts : {V : Type 0} → Mode → Option (Hold V) → Bool
owned_conflicts m None = false
owned_conflicts m (Some h) = owned h && conflict m (hold_mode h)

-- is station j older than station i? The smaller stamp is the older
abbrev pub older : {V : Type 0} → Stations V → ℕ → ℕ → Bool
older t j i = nat_lt (t j).stamp (t i).stamp

-- an idle station
abbrev pub idle_station : {V : Type 0} → Station V
idle_station = record { phase = idle; stamp = 0; hand = [] }

-- a station that runs
abbrev pub running_station : {V : Type 0} → ℕ → List (Hold V) → Station V
running_station s hs = record { phase = running; stamp = s; hand = hs }

-- a station whose attempt was wounded keeps its stamp, and its hand is free
abbrev pub wounded_station : {V : Type 0} → Station V → Station V
wounded_station s = record { phase = wounded; stamp = s.stamp; hand = [] }

-- a station that waits for record r
abbrev pub waiting_station : {V : Type 0} → Station V → ℕ → Mode → Station V
waiting_station s r m = record { phase = waiting r m; stamp = s.stamp; hand = s.hand }

-- a station with another hand
abbrev pub with_hand : {V : Type 0} → Station V → List (Hold V) → Station V
with_hand s hs = record { phase = s.phase; stamp = s.stamp; hand = hs }

-- the stations with x put at number i
abbrev pub put : {V : Type 0} → Stations V → ℕ → Station V → Stations V
put t i x = λ j. cond (j == i) x (t j)

-- a table with other stations
abbrev pub with_stations : {V : Type 0} → Table V → Stations V → Table V
with_stations t s = record
    { stations = s; next_stamp = t.next_stamp; commits = t.commits; show = t.show; records = t.records }
