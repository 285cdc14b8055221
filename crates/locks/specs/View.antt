-- How the tables of the code read as the stations of the rules. The drafts come from elsewhere: place k of station i has
-- the draft `drafts i k`.
use Rattle.std.specs.Prelude.{ℕ, zero, suc, ◌+◌, ◌≤◌, Bool, false, cond, not, List, [], ◌∷◌, length, Some, None, Option, ◌==◌, slice_index_or}
use Rattle.std.specs.Option.{option_map}
use Rattle.rules.specs.declared.Mode.{Mode}
use Rattle.rules.specs.Searches.{count_below}
use Rattle.rules.specs.Tables as rules
use Rattle.rules.specs.Operations.{draft_for}
use Rattle.locks.specs.declared.station.Hold.{Hold}
use Rattle.locks.specs.declared.station.Phase.{Phase}
use Rattle.locks.specs.declared.station.Phase.TheVariants.{Idle, Running, Waiting, Wounded}
use Rattle.locks.specs.declared.station.Station.{Station}
use Rattle.locks.specs.Hand.{no_hold}

-- an idle station with an empty hand, which is also what is read past the end of the stations
abbrev pub no_station : Station
no_station = record { phase = Idle; hand = record { items = [] } }

-- what a station does, as the rules have it
abbrev pub phase_of : Phase → rules.Phase
phase_of Idle = rules.idle
phase_of (Running s) = rules.running
phase_of (Waiting s r m) = rules.waiting r m
phase_of (Wounded s) = rules.wounded

-- the stamp, 0 where there is none
abbrev pub stamp_of : Phase → ℕ
stamp_of Idle = 0
stamp_of (Running s) = s
stamp_of (Waiting s r m) = s
stamp_of (Wounded s) = s

module _ {V : Type 0} where
  -- a hold with its draft
  abbrev pub hold_with : V → Hold → rules.Hold V
  hold_with v h = record { record_number = h.at; draft = draft_for h.mode v; stage = h.stage }

  -- the first n holds, the newest first
  abbrev pub hand_with : (ℕ → V) → List Hold → ℕ → List (rules.Hold V)
  hand_with drafts hand zero = []
  hand_with drafts hand (suc n) = hold_with (drafts n) (slice_index_or hand n no_hold) ∷ hand_with drafts hand n

  -- a station with the drafts of its places
  abbrev pub station_with : (ℕ → V) → Station → rules.Station V
  station_with drafts s = record { phase = phase_of s.phase; stamp = stamp_of s.phase; hand = hand_with drafts s.hand.items (length s.hand.items) }

  -- the stations with the drafts of their places
  abbrev pub stations_with : (ℕ → ℕ → V) → List Station → rules.Stations V
  stations_with drafts stations = λ i. station_with (drafts i) (slice_index_or stations i no_station)

-- the holds of a station with the drafts left out: which modes conflict does not depend on them
abbrev pub held_by : Station → List (rules.Hold (Unit {0}))
held_by s = hand_with (λ k. tt {0}) s.hand.items (length s.hand.items)

-- the stations with the drafts left out
abbrev pub bare : List Station → rules.Stations (Unit {0})
bare = stations_with (λ i k. tt {0})

-- each exclusive hold with its own station and place for a draft
abbrev pub placed : List Station → rules.Stations (Option (ℕ × ℕ))
placed = stations_with {V = Option (ℕ × ℕ)} (λ i k. Some (i, k))

-- the place of the hold on record r among the first n, the newest first
abbrev pub place_on : ℕ → List Hold → ℕ → Option ℕ
place_on r hand zero = None
place_on r hand (suc n) = cond ((slice_index_or hand n no_hold).at == r) (Some n) (place_on r hand n)

-- the hold of a station on record r
abbrev pub hold_in : ℕ → Station → Option Hold
hold_in r s = option_map (λ k. slice_index_or s.hand.items k no_hold) (place_on r s.hand.items (length s.hand.items))

-- the place that a wait keeps free for its hold
abbrev pub claimed : Phase → ℕ
claimed Idle = 0
claimed (Running s) = 0
claimed (Waiting s r m) = 1
claimed (Wounded s) = 0

-- a hand has room for what is in it and for what its station waits for
abbrev pub HasRoom : Station → Type 0
HasRoom s = length s.hand.items + claimed s.phase ≤ 16

-- is there an attempt at a station?
abbrev pub active : Station → Bool
active s = not (rules.is_idle (phase_of s.phase))

-- the number of stations with an attempt
unfoldable pub attempts : List Station → ℕ
attempts stations = count_below 16 (λ i. active (slice_index_or stations i no_station))

-- the holds of station i, in the order of their grants
abbrev pub hand_at : List Station → ℕ → List Hold
hand_at stations i = (slice_index_or stations i no_station).hand.items

-- the stamp of station i, 0 where there is none
abbrev pub stamp_at : List Station → ℕ → ℕ
stamp_at stations i = stamp_of (slice_index_or stations i no_station).phase

-- is there an attempt at station i?
abbrev pub active_at : List Station → ℕ → Bool
active_at stations i = active (slice_index_or stations i no_station)

-- the record and the mode that a station in this phase waits for, if it waits
abbrev pub awaited_in : Phase → Option (ℕ × Mode)
awaited_in Idle = None
awaited_in (Running s) = None
awaited_in (Waiting s r m) = Some (r, m)
awaited_in (Wounded s) = None

-- the record and the mode that station i waits for, if it waits
abbrev pub awaited_at : List Station → ℕ → Option (ℕ × Mode)
awaited_at stations i = awaited_in (slice_index_or stations i no_station).phase

-- a set of stations
abbrev pub member_of : List Bool → ℕ → Bool
member_of members i = slice_index_or members i false
