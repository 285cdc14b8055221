-- What each change makes of a station of the code, and of the list of stations.
use Rattle.std.specs.Prelude.{◌≡◌, ℕ, zero, suc, Bool, true, cond, ◌&&◌, List, [], ◌∷◌, ◌++◌, length, nat_le, nat_lt, slice_index_or, slice_set}
use Rattle.rules.specs.declared.Mode.{Mode}
use Rattle.rules.specs.declared.Stage.TheVariants.{Owned, Retired}
use Rattle.rules.specs.Calls.{last_stamp}
use Rattle.locks.specs.declared.station.Hold.{Hold}
use Rattle.locks.specs.declared.station.Phase.{Phase}
use Rattle.locks.specs.declared.station.Phase.TheVariants.{Idle, Running, Waiting, Wounded}
use Rattle.locks.specs.declared.station.Station.{Station}
use Rattle.locks.specs.Hand.{no_hold}
use Rattle.locks.specs.View.{no_station, HasRoom, active}

-- does begin at station s find a station and a stamp?
abbrev pub begins : ℕ → ℕ → Bool
begins s next = nat_lt s 16 && nat_le next last_stamp

-- a station in this phase, with these holds
abbrev pub in_phase : Phase → List Hold → Station
in_phase p holds = record { phase = p; hand = record { items = holds } }

-- no attempt
abbrev pub freed : Station → Station
freed s = in_phase Idle []

-- an attempt that runs with an empty hand
abbrev pub started : ℕ → Station → Station
started stamp s = in_phase (Running stamp) []

-- the phase of a wounded attempt: an idle station has none to wound
abbrev pub wounded_phase : Phase → Phase
wounded_phase Idle = Idle
wounded_phase (Running s) = Wounded s
wounded_phase (Waiting s r m) = Wounded s
wounded_phase (Wounded s) = Wounded s

-- all holds and the wait of the attempt go
abbrev pub wounded : Station → Station
wounded s = in_phase (wounded_phase s.phase) []

-- a running attempt, in this phase, waits for record r in mode m, where its hand has room
abbrev pub waiting_in : Phase → ℕ → Mode → Station → Station
waiting_in Idle r m s = s
waiting_in (Running stamp) r m s = cond (nat_lt (length s.hand.items) 16) (in_phase (Waiting stamp r m) s.hand.items) s
waiting_in (Waiting stamp q n) r m s = s
waiting_in (Wounded stamp) r m s = s

-- a running attempt waits for record r in mode m, where its hand has room
abbrev pub awaiting : ℕ → Mode → Station → Station
awaiting r m s = waiting_in s.phase r m s

-- what an attempt, in this phase, waits for becomes an owned hold at the next place
abbrev pub granted_in : Phase → Station → Station
granted_in Idle s = s
granted_in (Running stamp) s = s
granted_in (Waiting stamp r m) s = in_phase (Running stamp) (s.hand.items ++ record { at = r; mode = m; stage = Owned } ∷ [])
granted_in (Wounded stamp) s = s

-- what an attempt waits for becomes an owned hold at the next place
abbrev pub granted : Station → Station
granted s = granted_in s.phase s

-- a wounded attempt, in this phase, starts again under its stamp
abbrev pub again_in : Phase → Station → Station
again_in Idle s = s
again_in (Running stamp) s = s
again_in (Waiting stamp r m) s = s
again_in (Wounded stamp) s = started stamp s

-- a wounded attempt starts again under its stamp
abbrev pub again : Station → Station
again s = again_in s.phase s

-- a hold, retired
abbrev pub retired_hold : Hold → Hold
retired_hold h = record { at = h.at; mode = h.mode; stage = Retired }

-- a station with the hold at place k retired
abbrev pub retired_at : ℕ → Station → Station
retired_at k s = in_phase s.phase (slice_set s.hand.items k (retired_hold (slice_index_or s.hand.items k no_hold)))

-- what is made of a station
abbrev pub Change : Type 0
Change = Station → Station

-- a change that keeps the room of a hand, and makes no attempt
abbrev pub Keeps : Change → Type 0
Keeps f = (s : Station) → HasRoom s → HasRoom (f s) × (active (f s) ≡ true → active s ≡ true)

-- whatever these calls leave of a station is that change of it
abbrev pub Does : (Station → Station → Type 0) → Change → Type 0
Does leaves f = (old new : Station) → leaves old new → new ≡ f old

-- the stations with station i changed
abbrev pub change : (Station → Station) → ℕ → List Station → List Station
change f i stations = slice_set stations i (f (slice_index_or stations i no_station))

-- the stations with the members below n wounded
unfoldable pub wounded_below : ℕ → (ℕ → Bool) → List Station → List Station
wounded_below zero members stations = stations
wounded_below (suc n) members stations = cond (members n) (change wounded n (wounded_below n members stations)) (wounded_below n members stations)
