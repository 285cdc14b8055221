-- What a call that is not refused may rely on.
use Rattle.std.proofs.Common.{◌≡◌, ℕ, ◌<◌, Bool, true, false, List, [], ◌∷◌, length, Some, None, Option, arith, refl}
use Rattle.std.specs.List.{AllByRecursion}
use Rattle.std.proofs.lemmas.Bool.Decides.{nat_tests}
use Rattle.rules.specs.declared.Mode.{Mode}
use Rattle.rules.specs.declared.Refusal.{Refusal}
use Rattle.rules.specs.declared.Call.{Call}
use Rattle.rules.specs.declared.Call.TheVariants.{Begin, Take, Look, Change, Retire, Commit, GiveUp, Again}
use Rattle.rules.specs.declared.Answer.{Answer}
use Rattle.rules.specs.declared.Answer.TheVariants.{Refused}
use Rattle.rules.specs.Tables.{Hold, idle, running, wounded, Table, owned, is_idle, hold_on}
use Rattle.rules.specs.Operations.{bonds}
use Rattle.rules.specs.Calls.{refusals, first_refusal, after, answer, step, outcome}

-- if no refusal is given, each test fails
pub all_tests_fail : (l : List (Bool × Refusal)) → first_refusal l ≡ None → AllByRecursion (λ p. p.0 ≡ false) l
all_tests_fail [] e = tt
all_tests_fail (p ∷ ps) e = grind (arith, all_tests_fail ps)

-- calls of station k on table t; a refused commit would name the station `named`
module _ {V : Type 0} (C : Type 0) (named : ℕ) (t : Table V) (k : ℕ) where
  -- begin: the station is one of the sixteen, and is idle
  pub begin_admitted : first_refusal (refusals {C = C} named (Begin k) t) ≡ None → (k < 16) × ((t.stations k).phase ≡ idle)
  begin_admitted e = grind (arith, nat_tests)

  -- take: the station runs, the record is one of the show's, the station does not hold it, and has room for it
  pub take_admitted : (r : ℕ) (m : Mode) → first_refusal (refusals {C = C} named (Take k r m) t) ≡ None
      → ((t.stations k).phase ≡ running) × (r < t.records) × (hold_on r (t.stations k).hand ≡ None) × (length (t.stations k).hand < 16)
  take_admitted r m e = grind (arith, nat_tests)

  -- look: the station runs and owns the record
  pub look_admitted : (r : ℕ) → first_refusal (refusals {C = C} named (Look k r) t) ≡ None
      → ((t.stations k).phase ≡ running) × ((h : Hold V) × (hold_on r (t.stations k).hand ≡ Some h) × (owned h ≡ true))
  look_admitted r e = grind (arith, nat_tests)

  -- change: the station runs, owns the record, and has a draft of it
  pub change_admitted : (r : ℕ) (c : C) → first_refusal (refusals named (Change k r c) t) ≡ None
      → ((t.stations k).phase ≡ running) × ((h : Hold V) × (hold_on r (t.stations k).hand ≡ Some h) × (owned h ≡ true) × ((d : V) × (h.draft ≡ Some d)))
  change_admitted r c e = grind (arith, nat_tests)

  -- retire: as look
  pub retire_admitted : (r : ℕ) → first_refusal (refusals {C = C} named (Retire k r) t) ≡ None
      → ((t.stations k).phase ≡ running) × ((h : Hold V) × (hold_on r (t.stations k).hand ≡ Some h) × (owned h ≡ true))
  retire_admitted r e = look_admitted r e

  -- commit: the station runs and has no bonds
  pub commit_admitted : first_refusal (refusals {C = C} named (Commit k) t) ≡ None
      → ((t.stations k).phase ≡ running) × (bonds t.stations k ≡ 0)
  commit_admitted e = grind (arith, nat_tests)

  -- give up: the station is not idle
  pub give_up_admitted : first_refusal (refusals {C = C} named (GiveUp k) t) ≡ None → is_idle (t.stations k).phase ≡ false
  give_up_admitted e = grind arith

  -- again: the station is wounded
  pub again_admitted : first_refusal (refusals {C = C} named (Again k) t) ≡ None → (t.stations k).phase ≡ wounded
  again_admitted e = grind arith

-- What step does with a refusal, and without one.
module _ {V C : Type 0} (apply : V → C → V) (named : ℕ) (c : Call C) (t : Table V) where
  -- a refused call answers its refusal and changes nothing; another is answered and leaves its table
  pub step_cases : (P : Answer V × Table V → Type 0)
      → ((why : Refusal) → first_refusal (refusals named c t) ≡ Some why → P (Refused why, t))
      → (first_refusal (refusals named c t) ≡ None → P (answer apply c t, after apply c t)) → P (step apply named c t)
  unfolding step
  step_cases P refused accepted = go (first_refusal (refusals named c t)) refl
    where
      go : (o : Option Refusal) → first_refusal (refusals named c t) ≡ o → P (outcome apply o c t)
      go (Some why) e = refused why e
      go None e = accepted e

  -- the answer of a refused call
  pub answer_refused : (why : Refusal) → first_refusal (refusals named c t) ≡ Some why → (step apply named c t).0 ≡ Refused why
  unfolding step
  answer_refused why e = rw e

  -- the answer of a call that is not refused
  pub answer_accepted : first_refusal (refusals named c t) ≡ None → (step apply named c t).0 ≡ answer apply c t
  unfolding step
  answer_accepted e = rw e
