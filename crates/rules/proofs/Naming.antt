-- The station that a refused commit names is a free choice.
use Rattle.std.proofs.Common.{◌≡◌, ℕ, ◌<◌, true, List, [], ◌∷◌, inl, inr, arith}
use Rattle.std.proofs.lemmas.Bool.{cases_Bool, or_left, or_right}
use Rattle.rules.specs.declared.Call.{Call}
use Rattle.rules.specs.Searches.{any_below}
use Rattle.rules.specs.Tables.{Hold, Stations, Table}
use Rattle.rules.specs.Operations.{binds, bonds_in, bonds, behind_bond_in, behind_bond}
use Rattle.rules.specs.Calls.{step}
use Rattle.rules.specs.Naming.{NamingIsFree}
use Rattle.rules.proofs.Searches.{any_below_witness}

-- if there are bonds, somebody is behind one
somebody_behind_bond : {V : Type 0} (t : Stations V) (i : ℕ) → 0 < bonds t i → (j : ℕ) × (j < 16) × (behind_bond t i j ≡ true)
unfolding bonds
somebody_behind_bond {V} t i l = all (t i).hand l
  where
    all : (hs : List (Hold V)) → 0 < bonds_in t i hs → (j : ℕ) × (j < 16) × (behind_bond_in t i hs j ≡ true)
    all [] l = absurd (omega arith)
    all (h ∷ hs) l = elim (cases_Bool (any_below 16 (binds t i h))) [
      | inl e ↦ (let x = any_below_witness 16 (binds t i h) e in
          (x.0, x.1, or_left (binds t i h x.0) (behind_bond_in t i hs x.0) x.2))
      | inr e ↦ (let x = all hs (rw e at l) in
          (x.0, x.1, or_right (binds t i h x.0) (behind_bond_in t i hs x.0) x.2))
    ]

-- the table that a call leaves does not depend on the station that a refused commit names
table_same_whoever_is_named : {V C : Type 0} (apply : V → C → V) (a b : ℕ) (c : Call C) (t : Table V)
    → (step apply a c t).1 ≡ (step apply b c t).1
unfolding step
table_same_whoever_is_named apply a b c t = grind arith

-- naming is free
pub naming_is_free : (V C : Type 0) → NamingIsFree V C
naming_is_free V C = record { somebody_to_name = somebody_behind_bond; same_table = table_same_whoever_is_named }
