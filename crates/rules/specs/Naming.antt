-- The station that a refused commit names: any one behind a bond will do.
use Rattle.std.specs.Prelude.{◌≡◌, ℕ, ◌<◌, true}
use Rattle.rules.specs.declared.Call.{Call}
use Rattle.rules.specs.declared.Call.TheVariants.{Begin, Take, Look, Change, Retire, Commit, GiveUp, Again, Standing, Plotted, Count}
use Rattle.rules.specs.Tables.{Stations, Table}
use Rattle.rules.specs.Operations.{bonds, behind_bond}
use Rattle.rules.specs.Calls.{step}

-- the station that a call may name: a refused commit any one behind a bond. The other calls name none
abbrev pub MayName : {V C : Type 0} → Call C → Table V → ℕ → Type 0
MayName (Begin i) t named = Unit {0}
MayName (Take i r m) t named = Unit {0}
MayName (Look i r) t named = Unit {0}
MayName (Change i r c) t named = Unit {0}
MayName (Retire i r) t named = Unit {0}
MayName (Commit i) t named = 0 < bonds t.stations i → behind_bond t.stations i named ≡ true
MayName (GiveUp i) t named = Unit {0}
MayName (Again i) t named = Unit {0}
MayName (Standing i) t named = Unit {0}
MayName (Plotted r) t named = Unit {0}
MayName Count t named = Unit {0}

-- the choice is free
pub record NamingIsFree (V C : Type 0) : Type 0 where
  -- where there are bonds, there is a station to name
  pub somebody_to_name : (t : Stations V) (i : ℕ) → 0 < bonds t i → (j : ℕ) × (j < 16) × (behind_bond t i j ≡ true)
  -- the table that a call leaves does not depend on the station named
  pub same_table : (apply : V → C → V) (a b : ℕ) (c : Call C) (t : Table V) → (step apply a c t).1 ≡ (step apply b c t).1
