-- A hand as clauses see it, and its places in memory.
use Rattle.std.specs.Prelude.{◌-◌, List, ◌++◌, length, replicate}
use Rattle.rules.specs.declared.Mode.TheVariants.{Shared}
use Rattle.rules.specs.declared.Stage.TheVariants.{Owned}
use Rattle.locks.specs.declared.station.Hold.{Hold}

-- the holds of a hand, in the order of their grants
pub record Holds : Type 0 where
  pub items : List Hold

-- what is read past the end of a hand, and what its unused places hold
abbrev pub no_hold : Hold
no_hold = record { at = 0; mode = Shared; stage = Owned }

-- the sixteen places of a hand with these holds
abbrev pub padded : List Hold → List Hold
padded holds = holds ++ replicate (16 - length holds) no_hold
