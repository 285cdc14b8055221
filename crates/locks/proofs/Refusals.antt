-- The refusals of a call, test by test.
use Rattle.std.proofs.Common.{◌≡◌, ℕ, suc, ◌<◌, ◌≤◌, Bool, true, false, cond, not, ltb, leb, List, [], ◌∷◌, ◌++◌, length, get_or, is_some, Some, None, Ok, Err, Option, sym, refl, ap, ◌∙◌, ⊎_elim, arith}
use Rattle.std.proofs.lemmas.Bool.{le-leb, lt-ltb, cases_lt, or_cases, cond-true, cond-false}
use Rattle.rules.specs.declared.Mode.{Mode}
use Rattle.rules.specs.declared.Refusal.{Refusal}
use Rattle.rules.specs.declared.Refusal.TheVariants as refusal
use Rattle.rules.specs.declared.Call.TheVariants.{Take, Look, Change, Commit}
use Rattle.rules.specs.Searches.{any_below}
use Rattle.rules.specs.Tables.{Hold, Stations, hold_on}
use Rattle.rules.specs.Operations.{binds, bonds, bonds_in, behind_bond, behind_bond_in}
use Rattle.rules.specs.Calls.{refusals, first_refusal, owns, held_test, hand_test, unowned_test, shared_test, bound_test}
use Rattle.rules.proofs.Searches.{any_below_from}
use Rattle.rules.proofs.Naming.{naming_is_free}
use Rattle.locks.specs.declared.table.LockTable.{LockTable}
use Rattle.locks.specs.View.{bare, no_station, hand_at, held_by, place_on}
use Rattle.locks.specs.Admission.{table_of, refused, running_tests, not_running, record_tests, no_record, admitted}
use Rattle.locks.proofs.Hands.{hand_length, owns_at, owns_at_place, shared_at, shared_at_place}

-- an answer that is Ok was admitted
pub admitted_ok : {A : Type 0} (x y : A) (o : Option Refusal) → Ok x ≡ admitted y o → (o ≡ None) × (x ≡ y)
admitted_ok x y None e = (refl, cc)
admitted_ok x y (Some why) e = absurd (let z : ◌≡◌ {A = ℕ} 0 1 = cc in omega arith)

-- an answer that is an Err was refused for that
pub admitted_err : {A : Type 0} (y : A) (why : Refusal) (o : Option Refusal) → Err why ≡ admitted y o → o ≡ Some why
admitted_err y why None e = absurd (let z : ◌≡◌ {A = ℕ} 0 1 = cc in omega arith)
admitted_err y why (Some other) e = cc

-- no refusal is none
none_some : {X : Type 0} (why : Refusal) → Some why ≡ None → X
none_some why e = absurd (let z : ◌≡◌ {A = ℕ} 0 1 = cc in omega arith)

-- after tests that all fail, the refusal is that of the rest
pub after_tests : (ps rest : List (Bool × Refusal)) → first_refusal ps ≡ None → first_refusal (ps ++ rest) ≡ first_refusal rest
after_tests [] rest e = refl
after_tests (p ∷ ps) rest e = go p.0 e (after_tests ps rest)
  where
    go : (b : Bool) → cond b (Some p.1) (first_refusal ps) ≡ None → (first_refusal ps ≡ None → first_refusal (ps ++ rest) ≡ first_refusal rest)
        → cond b (Some p.1) (first_refusal (ps ++ rest)) ≡ first_refusal rest
    go true e ih = none_some p.1 e
    go false e ih = ih e

-- a test that holds gives its refusal, whatever comes after
pub within_tests : (ps rest : List (Bool × Refusal)) (why : Refusal) → first_refusal ps ≡ Some why → first_refusal (ps ++ rest) ≡ Some why
within_tests [] rest why e = none_some why (sym e)
within_tests (p ∷ ps) rest why e = go p.0 e (within_tests ps rest why)
  where
    go : (b : Bool) → cond b (Some p.1) (first_refusal ps) ≡ Some why → (first_refusal ps ≡ Some why → first_refusal (ps ++ rest) ≡ Some why)
        → cond b (Some p.1) (first_refusal (ps ++ rest)) ≡ Some why
    go true e ih = e
    go false e ih = ih e

module _ (t : LockTable) (s i at records : ℕ) (admits : Ok i ≡ admitted s (no_record t s at records)) where
  -- the station is the one that was named
  pub named_station : i ≡ s
  named_station = (admitted_ok i s (no_record t s at records) admits).1

  -- of a take, after the station, the record and the holds: whether the hand is full
  pub take_by_hand : (m : Mode) → false ≡ is_some (hold_on at (held_by (get_or t.stations i no_station)))
      → refused 0 (Take s at m) t records ≡ cond (leb 16 (length (hand_at t.stations i))) (Some refusal.Hand) None
  take_by_hand m free =
      after_tests (record_tests t s at records) (held_test (table_of t records) s at ∷ hand_test (table_of t records) s ∷ []) (admitted_ok i s (no_record t s at records) admits).0
      ∙ ap (λ j. cond (is_some (hold_on at (bare t.stations j).hand)) (Some refusal.Held) (cond (leb 16 (length (bare t.stations j).hand)) (Some refusal.Hand) None)) (sym named_station)
      ∙ cond-false (is_some (hold_on at (bare t.stations i).hand)) (Some refusal.Held) _ (sym free)
      ∙ ap (λ n. cond (leb 16 n) (Some refusal.Hand) None) (hand_length (λ k. tt {0}) (hand_at t.stations i) (length (hand_at t.stations i)))

  -- of a look, after the station and the record: whether the hold is owned
  pub look_by_hold : (o : Option ℕ) → o ≡ place_on at (hand_at t.stations i) (length (hand_at t.stations i))
      → refused 0 (Look s at) t records ≡ cond (not (owns_at (hand_at t.stations i) o)) (Some refusal.Unowned) None
  look_by_hold o e =
      after_tests (record_tests t s at records) (unowned_test (table_of t records) s at ∷ []) (admitted_ok i s (no_record t s at records) admits).0
      ∙ ap (λ j. cond (not (owns (hold_on at (bare t.stations j).hand))) (Some refusal.Unowned) None) (sym named_station)
      ∙ ap (λ b. cond (not b) (Some refusal.Unowned) None) (owns_at_place (λ k. tt {0}) at (hand_at t.stations i) (length (hand_at t.stations i)))
      ∙ ap (λ q. cond (not (owns_at (hand_at t.stations i) q)) (Some refusal.Unowned) None) (sym e)

-- of a change, after a look would be admitted: whether the hold is shared
pub change_by_mode : (t : LockTable) (s at records : ℕ) (o : Option ℕ) → None ≡ refused 0 (Look s at) t records
    → o ≡ place_on at (hand_at t.stations s) (length (hand_at t.stations s))
    → refused 0 (Change s at tt) t records ≡ cond (shared_at (hand_at t.stations s) o) (Some refusal.Shared) None
change_by_mode t s at records o e p =
    after_tests (refusals {V = Unit {0}} {C = Unit {0}} 0 (Look s at) (table_of t records)) (shared_test (table_of t records) s at ∷ []) (sym e)
    ∙ ap (λ b. cond b (Some refusal.Shared) None) (shared_at_place (λ k. tt {0}) at (hand_at t.stations s) (length (hand_at t.stations s)))
    ∙ ap (λ q. cond (shared_at (hand_at t.stations s) q) (Some refusal.Shared) None) (sym p)

-- who is behind a bond shows that there is one
pub bonds_behind : {V : Type 0} (t : Stations V) (i j : ℕ) → j < 16 → behind_bond t i j ≡ true → 0 < bonds t i
unfolding bonds
bonds_behind {V} t i j below e = all (t i).hand e
  where
    all : (hs : List (Hold V)) → behind_bond_in t i hs j ≡ true → 0 < bonds_in t i hs
    all [] e = absurd (let z : ◌≡◌ {A = ℕ} 0 1 = cc in omega arith)
    all (h ∷ hs) e = ⊎_elim
        (λ b. let q = cond-true (any_below 16 (binds t i h)) (suc (bonds_in t i hs)) (bonds_in t i hs) (any_below_from 16 (binds t i h) j below b) in omega (arith, q))
        (λ b. go (any_below 16 (binds t i h)) (all hs b))
        (or_cases _ _ e)
      where
        go : (b : Bool) → 0 < bonds_in t i hs → 0 < cond b (suc (bonds_in t i hs)) (bonds_in t i hs)
        go true l = omega arith
        go false l = l

-- a station to name with a refused commit
pub someone_to_name : {V : Type 0} (t : Stations V) (i : ℕ) → (named : ℕ) × (0 < bonds t i → behind_bond t i named ≡ true)
someone_to_name {V} t i =
    ⊎_elim (λ l. let x = (naming_is_free V (Unit {0})).somebody_to_name t i l in (x.0, λ _. x.2)) (λ l. (0, λ h. absurd (let no : ⊥ = omega arith in no))) (cases_lt 0 (bonds t i))

-- a commit that is refused before its bonds are asked for
pub commit_not_running : (t : LockTable) (s named : ℕ) (why : Refusal) → Err why ≡ admitted s (not_running t s) → refused named (Commit s) t 0 ≡ Some why
commit_not_running t s named why e = within_tests (running_tests t s) (bound_test (table_of t 0) s named ∷ []) why (admitted_err s why (not_running t s) e)

-- a commit that is refused for its bonds
pub commit_bound : (t : LockTable) (s i named : ℕ) → Ok i ≡ admitted s (not_running t s) → named < 16 → behind_bond (bare t.stations) s named ≡ true
    → refused named (Commit s) t 0 ≡ Some (refusal.Bound (bonds (bare t.stations) s) named)
commit_bound t s i named runs below e =
    after_tests (running_tests t s) (bound_test (table_of t 0) s named ∷ []) (admitted_ok i s (not_running t s) runs).0
    ∙ cond-true (ltb 0 (bonds (bare t.stations) s)) (Some (refusal.Bound (bonds (bare t.stations) s) named)) None (lt-ltb 0 (bonds (bare t.stations) s) (bonds_behind (bare t.stations) s named below e))

-- a station that is admitted is one of the sixteen
pub station_below : (t : LockTable) (s i at records : ℕ) → Ok i ≡ admitted s (no_record t s at records) → i < 16
station_below t s i at records e = ⊎_elim
    (λ h. let same = (admitted_ok i s (no_record t s at records) e).1 in omega (arith, same))
    (λ h. none_some refusal.Station (sym (past h) ∙ (admitted_ok i s (no_record t s at records) e).0))
    (cases_lt s 16)
  where
    past : 16 ≤ s → no_record t s at records ≡ Some refusal.Station
    past h = cond-true (leb 16 s) (Some refusal.Station) _ (le-leb 16 s h)
