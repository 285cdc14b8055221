-- What every table has that calls reach from a new one: its records are the show's, and a hand holds each of them once.
use Rattle.std.specs.Prelude.{◌≡◌, ℕ, ◌<◌, List, [], ◌∷◌, Some, None}
use Rattle.rules.specs.declared.Mode.{Mode}
use Rattle.rules.specs.Tables.{Hold, waiting, Table, hold_on}

-- the records of the holds in a hand are distinct
abbrev pub Distinct : {V : Type 0} → List (Hold V) → Type 0
Distinct [] = Unit {0}
Distinct (h ∷ hs) = (hold_on h.record_number hs ≡ None) × Distinct hs

-- a table in which no hold and no wait is of a record that the show lacks, and no station holds a record twice
pub record Orderly {V : Type 0} (t : Table V) : Type 0 where
  pub held_inside : (i r : ℕ) (h : Hold V) → hold_on r (t.stations i).hand ≡ Some h → r < t.records
  pub awaited_inside : (i r : ℕ) (m : Mode) → (t.stations i).phase ≡ waiting r m → r < t.records
  pub distinct : (i : ℕ) → Distinct (t.stations i).hand
