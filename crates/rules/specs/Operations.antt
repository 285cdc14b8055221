-- The operations on the lock table: what stands before a hold, bonds, widening and wounding, promoting, and settling, with
-- which every call that frees something ends.
use Rattle.std.specs.Prelude.{ℕ, zero, suc, Bool, false, cond, not, ◌&&◌, ◌||◌, List, [], ◌∷◌, is_some, Some, None, Option, ◌==◌, nat_lt}
use Rattle.rules.specs.declared.Mode.{Mode}
use Rattle.rules.specs.declared.Mode.TheVariants.{Shared, Exclusive}
use Rattle.rules.specs.declared.Stage.TheVariants.{Owned, Retired}
use Rattle.rules.specs.Searches.{any_below, first_below, until}
use Rattle.rules.specs.Tables.{Hold, Phase, idle, running, wounded, waiting, Station, Stations, hold_mode, waits_for, hold_on, draft_in, conflicts, owned_conflicts, older, running_station, wounded_station, waiting_station, put}

-- What stands before a hold.

-- the younger of a draft with its stamp s, if there is one, and what was found so far
abbrev pub younger_of : {V : Type 0} → Option V → ℕ → ℕ × V → ℕ × V
younger_of None s found = found
younger_of (Some v) s found = cond (nat_lt found.0 s) (s, v) found

-- of the drafts of the stations below n, the one with the largest stamp; the value v with stamp 0 if there is none
abbrev pub youngest : {V : Type 0} → (ℕ → ℕ) → (ℕ → Option V) → V → ℕ → ℕ × V
youngest stamps drafts v zero = (0, v)
youngest stamps drafts v (suc n) = younger_of (drafts n) (stamps n) (youngest stamps drafts v n)

-- the draft that station j has of record r, if j is older than station i
abbrev pub older_draft : {V : Type 0} → Stations V → ℕ → ℕ → ℕ → Option V
older_draft t i r j = cond (older t j i) (draft_in (hold_on r (t j).hand)) None

-- what stands before station i at record r: the draft of the youngest exclusive holder that is older, or the plotted value
unfoldable pub before : {V : Type 0} → Stations V → (ℕ → V) → ℕ → ℕ → V
before t show i r = (youngest (λ j. (t j).stamp) (older_draft t i r) (show r) 16).1

-- the value that stands first, if there is one
abbrev pub or_else : {V : Type 0} → Option V → V → V
or_else (Some v) w = v
or_else None w = w

-- the value that the holder of a hand sees at record r: its own draft, or else the value given
abbrev pub seen : {V : Type 0} → List (Hold V) → (ℕ → V) → ℕ → V
seen hand values r = or_else (draft_in (hold_on r hand)) (values r)

-- Bonds.

-- is station j an older holder with a mode that conflicts with the hold h of station i?
abbrev pub binds : {V : Type 0} → Stations V → ℕ → Hold V → ℕ → Bool
binds t i h j = older t j i && conflicts (hold_mode h) (hold_on h.record_number (t j).hand)

-- how many of these holds of station i have an older holder with a conflicting mode?
abbrev pub bonds_in : {V : Type 0} → Stations V → ℕ → List (Hold V) → ℕ
bonds_in t i [] = 0
bonds_in t i (h ∷ hs) = cond (any_below 16 (binds t i h)) (suc (bonds_in t i hs)) (bonds_in t i hs)

-- the bonds of station i: the records that it holds on which an older holder has a conflicting mode
unfoldable pub bonds : {V : Type 0} → Stations V → ℕ → ℕ
bonds t i = bonds_in t i (t i).hand

-- is station j behind a bond that comes from one of these holds of station i?
abbrev pub behind_bond_in : {V : Type 0} → Stations V → ℕ → List (Hold V) → ℕ → Bool
behind_bond_in t i [] j = false
behind_bond_in t i (h ∷ hs) j = binds t i h j || behind_bond_in t i hs j

-- is station j behind a bond of station i? A refused commit names any one of these: the choice is free
abbrev pub behind_bond : {V : Type 0} → Stations V → ℕ → ℕ → Bool
behind_bond t i j = behind_bond_in t i (t i).hand j

-- Widening and wounding.

-- is there a record that the first hand holds exclusively and the second holds?
abbrev pub exclusive_in_common : {V : Type 0} → List (Hold V) → List (Hold V) → Bool
exclusive_in_common [] other = false
exclusive_in_common (h ∷ hs) other = (is_some h.draft && is_some (hold_on h.record_number other)) || exclusive_in_common hs
    other

-- does station i, not yet a member, hold a record that an older member holds exclusively?
abbrev pub joins : {V : Type 0} → Stations V → (ℕ → Bool) → ℕ → Bool
joins t members i = not (members i) && any_below 16
    (λ j. members j && (older t j i && exclusive_in_common (t j).hand (t i).hand))

-- the set with one member more
abbrev pub with_member : ℕ → (ℕ → Bool) → ℕ → Bool
with_member i members = λ k. (k == i) || members k

-- the set widened: if a member holds a record exclusively, every younger holder of that record joins, until nobody joins
unfoldable pub widen : {V : Type 0} → Stations V → (ℕ → Bool) → ℕ → Bool
widen t members = until 16 (λ ms. first_below 16 (joins t ms)) with_member members

-- all holds and waits of the members go
unfoldable pub wound : {V : Type 0} → (ℕ → Bool) → Stations V → Stations V
wound members t = λ i. cond (members i) (wounded_station (t i)) (t i)

-- Promoting.

-- does station j keep station i from being granted record r in mode m: by an owned hold that conflicts, or by an older wait?
abbrev pub blocks : {V : Type 0} → Stations V → ℕ → ℕ → Mode → ℕ → Bool
blocks t i r m j = owned_conflicts m (hold_on r (t j).hand) || (waits_for (t j).phase r && older t j i)

-- may station i, in this phase, be granted what it waits for?
abbrev pub ready : {V : Type 0} → Stations V → ℕ → Phase → Bool
ready t i idle = false
ready t i running = false
ready t i wounded = false
ready t i (waiting r m) = not (any_below 16 (blocks t i r m))

-- may station i be granted what it waits for?
unfoldable pub grantable : {V : Type 0} → Stations V → ℕ → Bool
grantable t i = ready t i (t i).phase

-- the draft with which a hold in mode m starts, over the value v
abbrev pub draft_for : {V : Type 0} → Mode → V → Option V
draft_for Shared v = None
draft_for Exclusive v = Some v

-- a station granted record r in mode m over the value v: the wait becomes an owned hold, and the station runs
abbrev pub granted_station : {V : Type 0} → Station V → ℕ → Mode → V → Station V
granted_station s r m v = running_station s.stamp
    (record { record_number = r; draft = draft_for m v; stage = Owned } ∷ s.hand)

-- a station granted what it waits for, in this phase; the values are what stands before it
abbrev pub granted_in : {V : Type 0} → (ℕ → V) → Station V → Phase → Station V
granted_in values s idle = s
granted_in values s running = s
granted_in values s wounded = s
granted_in values s (waiting r m) = granted_station s r m (values r)

-- the stations with station i granted what it waits for
unfoldable pub grant : {V : Type 0} → (ℕ → V) → ℕ → Stations V → Stations V
grant show i t = put t i (granted_in (before t show i) (t i) (t i).phase)

-- promote all records: of each record the waits are granted from the oldest on, up to the first that an owned hold stops
unfoldable pub promote : {V : Type 0} → (ℕ → V) → Stations V → Stations V
promote show t = until 16 (λ u. first_below 16 (grantable u)) (grant show) t

-- the closing step of every call that frees something
abbrev pub settle : {V : Type 0} → (ℕ → V) → Stations V → Stations V
settle show t = promote show t

-- Take and give up.

-- the younger holders of record r whose mode conflicts with the mode m that station i takes
abbrev pub must_yield : {V : Type 0} → Stations V → ℕ → ℕ → Mode → ℕ → Bool
must_yield t i r m j = older t i j && conflicts m (hold_on r (t j).hand)

-- whom a take wounds
unfoldable pub wounded_by_take : {V : Type 0} → Stations V → ℕ → ℕ → Mode → ℕ → Bool
wounded_by_take t i r m = widen t (must_yield t i r m)

-- whom a give up wounds, the station itself among them
unfoldable pub wounded_by_give_up : {V : Type 0} → Stations V → ℕ → ℕ → Bool
wounded_by_give_up t i = widen t (λ j. j == i)

-- the stations with a wait of station i added
abbrev pub add_wait : {V : Type 0} → Stations V → ℕ → ℕ → Mode → Stations V
add_wait t i r m = put t i (waiting_station (t i) r m)

-- Changes of a hold.

-- the hand with its hold on record r changed by f
abbrev pub adjust : {V : Type 0} → ℕ → (Hold V → Hold V) → List (Hold V) → List (Hold V)
adjust r f [] = []
adjust r f (h ∷ hs) = cond (h.record_number == r) (f h ∷ hs) (h ∷ adjust r f hs)

-- a hold, retired
abbrev pub retired : {V : Type 0} → Hold V → Hold V
retired h = record { record_number = h.record_number; draft = h.draft; stage = Retired }

-- a draft, if there is one, changed
abbrev pub changed_draft : {V : Type 0} → (V → V) → Option V → Option V
changed_draft f None = None
changed_draft f (Some v) = Some (f v)

-- a hold with its draft changed
abbrev pub redrafted : {V : Type 0} → (V → V) → Hold V → Hold V
redrafted f h = record { record_number = h.record_number; draft = changed_draft f h.draft; stage = h.stage }
