-- The runs of the rules, and the theorems that they obey the law and keep the table orderly.
use Rattle.std.specs.Prelude.{ℕ, List, [], ◌∷◌}
use Rattle.rules.specs.declared.Call.{Call}
use Rattle.rules.specs.Tables.{Table}
use Rattle.rules.specs.Calls.{step, opened}
use Rattle.rules.specs.Orderly.{Orderly}
use Rattle.law.specs.Observer.{Engine}
use Rattle.law.specs.Law.{Law}

-- `named` chooses the station that a refused commit names, by the calls so far
module _ {V C : Type 0} (apply : V → C → V) (named : List (Call C) → ℕ) (start : Table V) where
  -- the table after the calls so far, the newest first
  abbrev pub table : List (Call C) → Table V
  table [] = start
  table (c ∷ h) = (step apply (named (c ∷ h)) c (table h)).1

  -- the rules as an engine
  abbrev pub engine : Engine V C
  engine h c = (step apply (named (c ∷ h)) c (table h)).0

-- the runs of the rules obey the law: for every kind of value, whichever station a refused commit names, and from every opening
abbrev pub Lawful : (V C : Type 0) → Type 0
Lawful V C =
    (apply : V → C → V) (named : List (Call C) → ℕ) (first records : ℕ) (show : ℕ → V) → Law apply
    (engine apply named (opened first show records))

-- every table that calls reach from a new one is orderly
abbrev pub AlwaysOrderly : (V C : Type 0) → Type 0
AlwaysOrderly V C =
    (apply : V → C → V) (named : List (Call C) → ℕ) (first records : ℕ) (show : ℕ → V) (h : List (Call C)) → Orderly
    (table apply named (opened first show records) h)
