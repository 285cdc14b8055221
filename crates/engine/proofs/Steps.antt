-- A step of the rules, refused or accepted, from what the lock table answered.
use Rattle.std.proofs.Common.{◌≡◌, ℕ, ◌<◌, ◌≤◌, cond, leb, Some, None, Ok, Err, Option, Result, IsErrAnd, sym, refl, ap, ◌∙◌, arith}
use Rattle.std.proofs.lemmas.Bool.Decides.{nat_tests}
use Rattle.std.proofs.lemmas.Grind.{common_steps}
use Rattle.rules.specs.declared.Refusal.{Refusal}
use Rattle.rules.specs.declared.Refusal.TheVariants.{Record}
use Rattle.rules.specs.declared.Call.{Call}
use Rattle.rules.specs.declared.Answer.{Answer}
use Rattle.rules.specs.declared.Answer.TheVariants.{Refused}
use Rattle.rules.specs.Tables.{Table, Stations}
use Rattle.rules.specs.Calls.{step, refusals, first_refusal, answer, after, outcome}
use Rattle.locks.specs.Admission.{admitted}
use Rattle.shelves.specs.declared.shelf.Shelf.{Ghosts as ShelfMembers}
use Rattle.engine.specs.Answers.{as_answer, Kept}
use Rattle.engine.specs.View.{SameTable}

-- equal parts make equal tables
pub table_of_all : {V : Type 0} {s u : Stations V} {n m c d : ℕ} {show other : ℕ → V} {records count : ℕ} → s ≡ u → n ≡ m → c ≡ d → show ≡ other → records ≡ count
    → ◌≡◌ {A = Table V} (record { stations = s; next_stamp = n; commits = c; show = show; records = records }) (record { stations = u; next_stamp = m; commits = d; show = other; records = count })
table_of_all e f g h k = λ i. record { stations = e i; next_stamp = f i; commits = g i; show = h i; records = k i }

-- equal tables agree in every field
pub same_table : {V : Type 0} (t u : Table V) → t ≡ u → SameTable t u
same_table {V = V} t u e = record {
  stations = λ i. ap (λ (x : Table V). x.stations i) e;
  next_stamp = ap (λ (x : Table V). x.next_stamp) e;
  commits = ap (λ (x : Table V). x.commits) e;
  show = λ r. ap (λ (x : Table V). x.show r) e;
  records = ap (λ (x : Table V). x.records) e;
}

-- what was not admitted was refused, and what was admitted was not
pub refusal_of : {A : Type 0} (x : A) (o : Option Refusal) (why : Refusal) → Err why ≡ admitted x o → o ≡ Some why
refusal_of x o why e = grind (arith, common_steps)

pub admission_of : {A : Type 0} (x y : A) (o : Option Refusal) → Ok y ≡ admitted x o → (o ≡ None) × (y ≡ x)
admission_of x y None e = (refl, cc)
admission_of x y (Some w) e = absurd cc

module _ {V C : Type 0} (apply : V → C → V) (c : Call C) (t : Table V) where
  -- a refused call answers its refusal and leaves the table, whoever may be named
  pub refused_naming : (named : ℕ) (why : Refusal) → first_refusal (refusals named c t) ≡ Some why → (Refused why, t) ≡ step apply named c t
  unfolding step
  refused_naming named why h = sym (ap (λ o. outcome apply o c t) h)

  -- an accepted one answers and leaves what the rules say
  pub accepted_naming : (named : ℕ) (a : Answer V) (u : Table V) → first_refusal (refusals named c t) ≡ None → a ≡ answer apply c t → u ≡ after apply c t → (a, u) ≡ step apply named c t
  unfolding step
  accepted_naming named a u h e f = (λ i. (e i, f i)) ∙ sym (ap (λ o. outcome apply o c t) h)

  -- a refusal that a `?` hands on
  pub handed_naming : {X : Type 0} (named : ℕ) (f : X → Answer V) (r : Result X Refusal) (why : Refusal) → IsErrAnd r (λ w. w ≡ why) → first_refusal (refusals named c t) ≡ Some why
      → (as_answer f r, t) ≡ step apply named c t
  handed_naming named f (Ok x) why e h = absurd e
  handed_naming named f (Err w) why e h = refused_naming named w (h ∙ ap Some (sym e))

  -- the same of calls that name nobody
  pub refused_step : (why : Refusal) → first_refusal (refusals 0 c t) ≡ Some why → (Refused why, t) ≡ step apply 0 c t
  refused_step = refused_naming 0

  pub accepted_step : (a : Answer V) (u : Table V) → first_refusal (refusals 0 c t) ≡ None → a ≡ answer apply c t → u ≡ after apply c t → (a, u) ≡ step apply 0 c t
  accepted_step = accepted_naming 0

  pub handed_step : {X : Type 0} (f : X → Answer V) (r : Result X Refusal) (why : Refusal) → IsErrAnd r (λ w. w ≡ why) → first_refusal (refusals 0 c t) ≡ Some why → (as_answer f r, t) ≡ step apply 0 c t
  handed_step = handed_naming 0

-- the test of the record's number, alone
pub test_fails : (n r : ℕ) → r < n → cond (leb n r) (Some Record) None ≡ None
test_fails n r h = grind (arith, nat_tests)

pub test_holds : (n r : ℕ) → n ≤ r → cond (leb n r) (Some Record) None ≡ Some Record
test_holds n r h = grind (arith, nat_tests)

-- a question: it leaves the table, and answers what the rules answer
pub asked_step : {V C X : Type 0} (apply : V → C → V) (c : Call C) (t : Table V) (f : X → Answer V) (r : Result X Refusal) (x : X) (o : Option Refusal)
    → r ≡ admitted x o → o ≡ first_refusal (refusals 0 c t) → after apply c t ≡ t → {y : X} → y ≡ x → answer apply c t ≡ f y → (as_answer f r, t) ≡ step apply 0 c t
asked_step apply c t f r x None e h k same a = accepted_step apply c t (as_answer f r) t (sym h) (ap (as_answer f) e ∙ ap f (sym same) ∙ sym a) (sym k)
asked_step {X = X} apply c t f r x (Some why) e h k same a = ap (λ (q : Result X Refusal). (as_answer f q, t)) e ∙ refused_step apply c t why (sym h)

-- an untouched shelf stays itself
pub kept_same : {S K V C N : Type 0} (shelf : ShelfMembers S K V C N) (s : S) → Kept shelf s s
kept_same shelf s = record { same_count = refl; same_memory = refl; stays_sound = λ h. h }

-- a shelf that stays itself twice stays itself
pub kept_both : {S K V C N : Type 0} {shelf : ShelfMembers S K V C N} {a b c : S} → Kept shelf a b → Kept shelf b c → Kept shelf a c
kept_both p q = record {
  same_count = q.same_count ∙ p.same_count;
  same_memory = q.same_memory ∙ p.same_memory;
  stays_sound = λ h. q.stays_sound (p.stays_sound h);
}
