-- The tables of a run do not depend on the stations named, and what is named freely call by call is named freely in the run.
use Rattle.std.proofs.Common.{◌≡◌, ℕ, zero, suc, ◌<◌, List, [], ◌∷◌, length, get_or, take, refl, ap, ◌∙◌, arith}
use Rattle.rules.specs.declared.Call.{Call}
use Rattle.rules.specs.declared.Call.TheVariants.{Count}
use Rattle.rules.specs.Tables.{Table}
use Rattle.rules.specs.Naming.{MayName}
use Rattle.rules.specs.Calls.{step}
use Rattle.rules.proofs.Naming.{naming_is_free}
use Rattle.law.specs.Runs.{table}
use Rattle.runs.specs.LawfulRun.{onto, NamesFreely}

module _ {V C : Type 0} (apply : V → C → V) where
  -- the table that a call leaves, whoever is named
  pub same_step : (a b : ℕ) (c : Call C) (t : Table V) → (step apply a c t).1 ≡ (step apply b c t).1
  same_step = (naming_is_free V C).same_table apply

  -- the tables of a run, whoever is named
  pub same_tables : (these those : List (Call C) → ℕ) (start : Table V) (h : List (Call C)) → table apply these start h ≡ table apply those start h
  same_tables these those start [] = refl
  same_tables these those start (c ∷ h) =
      ap (λ (t : Table V). (step apply (these (c ∷ h)) c t).1) (same_tables these those start h) ∙ same_step (these (c ∷ h)) (those (c ∷ h)) c (table apply those start h)

-- named freely at each call
pub all_named : {V C : Type 0} (tables : List (Call C) → Table V) (named : List (Call C) → ℕ) (h calls : List (Call C))
    → ((k : ℕ) → k < length calls → MayName (get_or calls k Count) (tables (onto h (take k calls))) (named (get_or calls k Count ∷ onto h (take k calls))))
    → NamesFreely tables named h calls
all_named tables named h [] each = tt
all_named tables named h (c ∷ cs) each = (each zero (omega arith), all_named tables named (c ∷ h) cs (λ k l. each (suc k) (omega (arith, l))))
