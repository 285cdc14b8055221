-- What the questions ask of the stations of the code, in the words of the rules.
use Rattle.std.specs.Prelude.{ℕ, ◌<◌, Bool, cond, ◌&&◌, List, None, Option, slice_get, nat_lt}
use Rattle.std.specs.Option.{option_map}
use Rattle.rules.specs.declared.Mode.{Mode}
use Rattle.rules.specs.Tables.{older, conflicts, hold_on}
use Rattle.rules.specs.Operations.{exclusive_in_common, older_draft}
use Rattle.locks.specs.declared.granting.Draft.{Draft}
use Rattle.locks.specs.declared.station.Hold.{Hold}
use Rattle.locks.specs.declared.station.Station.{Station}
use Rattle.locks.specs.View.{bare, stations_with, stamp_at}

-- is station j an older holder of record r with a mode that conflicts with the mode m of station i?
abbrev pub binds_on : List Station → ℕ → ℕ → Mode → ℕ → Bool
binds_on stations i r m j = older (bare stations) j i && conflicts m (hold_on r (bare stations j).hand)

-- is station j a member that is older than station i, and holds a record exclusively that i holds?
abbrev pub pulls : List Station → (ℕ → Bool) → ℕ → ℕ → Bool
pulls stations members i j = members j && (older (bare stations) j i && exclusive_in_common (bare stations j).hand (bare stations i).hand)

-- the younger of two drafts; the first where the stamps are equal
abbrev pub younger : Draft → Draft → Draft
younger d e = cond (nat_lt d.stamp e.stamp) e d

-- the draft of record r that station j has, if j has an attempt that is older than station i
abbrev pub stamped_draft : List Station → ℕ → ℕ → ℕ → Option Draft
stamped_draft stations i r j = cond (nat_lt 0 (stamp_at stations j))
    (option_map (λ k. record { stamp = stamp_at stations j; place = (j, k) }) (older_draft (stations_with (λ j k. k) stations) i r j)) None

-- a station and a place, each one of sixteen
abbrev pub Below : ℕ × ℕ → Type 0
Below p = (p.0 < 16) × (p.1 < 16)

-- the hold at a place, if the place is in use
abbrev pub hold_at : Station → ℕ → Option Hold
hold_at s k = slice_get s.hand.items k
