-- The law of runs. An engine that is new at the first call receives any list of calls; after every call, refused or not, it is
-- serial, ordered and live. The law speaks of calls, answers and what an observer reads off them, and of nothing else.
use Rattle.std.specs.Prelude.{◌≡◌, ℕ, suc, true, false, ◌||◌, List, [], ◌∷◌, length, None, ◌≢◌}
use Rattle.std.specs.List.{AllByRecursion}
use Rattle.rules.specs.declared.State.TheVariants.{Running, Wounded}
use Rattle.rules.specs.declared.Call.{Call}
use Rattle.rules.specs.declared.Call.TheVariants.{Commit, Standing, Plotted}
use Rattle.rules.specs.declared.Answer.TheVariants.{Value, Committed, Stands}
use Rattle.law.specs.Observer.{Engine, state, stamp, at_work, oldest, names, Attempt, observed, is_committed, attempt_at_work}
use Rattle.law.specs.Alone.{all_left, AllAgree}

-- the opening values: the show's, as plotted tells them of a new engine
abbrev pub Opening : {V C : Type 0} → Engine V C → (ℕ → V) → Type 0
Opening {V} e opening = (r : ℕ) (v : V) → e [] (Plotted r) ≡ Value v → opening r ≡ v

-- Serial: run the committed attempts alone from the opening values, in commit order
pub record Serial {V C : Type 0} (apply : V → C → V) (e : Engine V C) (h : List (Call C)) : Type 0 where
  -- each look and change of theirs that was not refused gets there the answer that the engine gave
  pub answers_agree : (opening : ℕ → V) → Opening e opening → AllAgree apply (observed e h).committed opening
  -- the show's value of every record is the one left
  pub values_left : (opening : ℕ → V) → Opening e opening → (r : ℕ) (v : V) → e [] (Plotted r) ≡ Value v
      → e h (Plotted r) ≡ Value (all_left apply (observed e h).committed opening r)
  -- commit numbers count up from 1
  pub numbers_count_up : (i n : ℕ) → e h (Commit i) ≡ Committed n → n ≡ suc (length (observed e h).committed)

-- each predecessor of a committed attempt was committed before it; the newest comes first
abbrev pub CommittedInOrder : {V C : Type 0} → List (Attempt V C) → Type 0
CommittedInOrder [] = Unit {0}
CommittedInOrder (a ∷ earlier) = CommittedInOrder earlier × AllByRecursion (λ p. is_committed p earlier ≡ true) a.predecessors

-- Ordered: an attempt granted a record that an older one holds exclusively commits only after that one; if the older one ends
-- uncommitted, the attempt too has ended so when that call returns
pub record Ordered {V C : Type 0} (e : Engine V C) (h : List (Call C)) : Type 0 where
  -- each predecessor of a committed attempt was committed before it
  pub committed_in_order : CommittedInOrder (observed e h).committed
  -- each predecessor of an attempt at work is at work or committed: once one has ended uncommitted, the attempt is not at work, nor, by
  -- the clause above, committed
  pub predecessors_stand : (i : ℕ) → at_work (e h) i ≡ true
      → AllByRecursion (λ p. (attempt_at_work (e h) (observed e h).attempts p || is_committed p (observed e h).committed) ≡ true) ((observed e h).attempts i).predecessors

-- Live: the oldest attempt at work, if there is one, can always go on
pub record Live {V C : Type 0} (e : Engine V C) (h : List (Call C)) : Type 0 where
  -- it waits for nobody and has no bonds
  pub oldest_runs : (i : ℕ) → oldest (e h) i ≡ true
      → e h (Standing i) ≡ Stands (record { state = Running; stamp = stamp (e h) i; bonds = 0; awaits = None })
  -- its commit would get a commit number
  pub oldest_commits : (i : ℕ) → oldest (e h) i ≡ true → (n : ℕ) × (e h (Commit i) ≡ Committed n)
  -- no other station's call wounds it
  pub oldest_not_wounded : (i : ℕ) → oldest (e h) i ≡ true → (c : Call C) → names c i ≡ false → state (e (c ∷ h)) i ≢ Wounded

-- the law: serial, ordered and live after every list of calls
pub record Law {V C : Type 0} (apply : V → C → V) (e : Engine V C) : Type 0 where
  pub serial : (h : List (Call C)) → Serial apply e h
  pub ordered : (h : List (Call C)) → Ordered e h
  pub live : (h : List (Call C)) → Live e h
