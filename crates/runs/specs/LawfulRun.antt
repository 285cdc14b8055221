-- What a run promises: every call is answered as the rules answer it, and the rules obey the law of runs.
use Rattle.std.specs.Prelude.{◌≡◌, ℕ, ◌<◌, List, [], ◌∷◌, Some}
use Rattle.rules.specs.declared.Call.{Call}
use Rattle.rules.specs.Tables.{Table}
use Rattle.rules.specs.Naming.{MayName}
use Rattle.law.specs.Observer.{Engine, observed}
use Rattle.law.specs.Alone.{all_left}
use Rattle.law.specs.Law.{Law}
use Rattle.law.specs.Runs.{table, engine}
use Rattle.runs.specs.declared.played.Played.{Played}

-- the call of an entry
abbrev pub call_of : {V C : Type 0} → Played V C → Call C
call_of p = p.call

-- calls put on those before them, the newest first
abbrev pub onto : {C : Type 0} → List (Call C) → List (Call C) → List (Call C)
onto before [] = before
onto before (c ∷ calls) = onto (c ∷ before) calls

-- each call with the answer that an engine gives it after the calls before it
abbrev pub answered : {V C : Type 0} → Engine V C → List (Call C) → List (Call C) → List (Played V C)
answered e before [] = []
answered e before (c ∷ calls) = record { call = c; answer = Some (e before c) } ∷ answered e (c ∷ before) calls

-- each call names a station that it may name
abbrev pub NamesFreely : {V C : Type 0} → (List (Call C) → Table V) → (List (Call C) → ℕ) → List (Call C) → List (Call C) → Type 0
NamesFreely tables named before [] = Unit {0}
NamesFreely tables named before (c ∷ calls) = MayName c (tables before) (named (c ∷ before)) × NamesFreely tables named (c ∷ before) calls

-- the calls, played from the table `start`, gave these entries and left the table `left`
pub record LawfulRun {V C : Type 0} (apply : V → C → V) (start : Table V) (calls : List (Call C)) (entries : List (Played V C)) (left : Table V) : Type 0 where
  -- the station that a refused commit names is a free choice, by the calls so far, among those that it may name
  pub named : List (Call C) → ℕ
  pub names_freely : NamesFreely (table apply named start) named [] calls
  -- every call was answered as the rules answer it after the calls before it
  pub answers : entries ≡ answered (engine apply named start) [] calls
  -- and the table left, from which every later call is answered, is that of the rules
  pub table_left : left ≡ table apply named start (onto [] calls)
  -- the rules, with the stations named so, are serial, ordered and live, after these calls and after any others
  pub law : Law apply (engine apply named start)
  -- so the show has what the committed attempts leave, run alone in the order of their commits
  pub show_left : (r : ℕ) → r < start.records → left.show r ≡ all_left apply (observed (engine apply named start) (onto [] calls)).committed start.show r
