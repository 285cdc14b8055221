-- The law refuses the empty engines.
use Rattle.std.proofs.Common.{◌≡◌, ℕ, List, [], ◌∷◌, refl, ap, arith}
use Rattle.std.proofs.lemmas.Bool.Decides.{nat_tests}
use Rattle.rules.specs.declared.Mode.TheVariants.{Exclusive}
use Rattle.rules.specs.declared.State.TheVariants.{Running, Waiting}
use Rattle.rules.specs.declared.Call.{Call}
use Rattle.rules.specs.declared.Call.TheVariants.{Begin, Take, Change, Retire, Commit, GiveUp, Plotted}
use Rattle.rules.specs.declared.Answer.{Answer}
use Rattle.rules.specs.declared.Answer.TheVariants.{Value}
use Rattle.rules.specs.Operations.{before, bonds, widen, wound, grantable, grant, promote, wounded_by_take, wounded_by_give_up}
use Rattle.rules.specs.Calls.{step}
use Rattle.law.specs.Observer.{state_in, observe}
use Rattle.law.specs.Law.{Serial, Ordered, Live}
use Rattle.law.specs.EmptyEngines.{up, engine_of, give_up_wounds_nobody, commit_writes_nothing, commit_always_refuses, take_always_waits, EmptyEnginesRefused}

-- one change, committed; the newest call comes first
abbrev committed_change : List (Call ℕ)
committed_change = Commit 0 ∷ Change 0 5 50 ∷ Take 0 5 Exclusive ∷ Begin 0 ∷ []

-- a value that was changed is not the old one
not_both : (a : Answer ℕ) → a ≡ Value 100 → a ≡ Value 150 → ⊥
not_both a e f = grind arith

-- the opening values are 100
opens_at_100 : (r v : ℕ) → engine_of commit_writes_nothing [] (Plotted r) ≡ Value v → 100 ≡ v
unfolding commit_writes_nothing step
opens_at_100 r v e = grind (arith, nat_tests)

-- a commit that writes nothing leaves the opening value, where the change run alone leaves another
writes_nothing_refused : ((h : List (Call ℕ)) → Serial up (engine_of commit_writes_nothing) h) → ⊥
unfolding commit_writes_nothing step promote grant grantable wound widen bonds before wounded_by_take wounded_by_give_up observe
writes_nothing_refused serial = not_both (Value 100) refl
    ((serial committed_change).values_left (λ r. 100) opens_at_100 5 100 refl)

-- station 1 is granted the record that station 0 has retired, and station 0 gives up; the newest call comes first
abbrev follower_left : List (Call ℕ)
follower_left = GiveUp 0 ∷ Take 1 5 Exclusive ∷ Retire 0 5 ∷ Take 0 5 Exclusive ∷ Begin 1 ∷ Begin 0 ∷ []

-- a give up that wounds nobody leaves a follower at work whose predecessor has ended uncommitted
wounds_nobody_refused : ((h : List (Call ℕ)) → Ordered (engine_of give_up_wounds_nobody) h) → ⊥
unfolding give_up_wounds_nobody step promote grant grantable wound widen bonds before wounded_by_take wounded_by_give_up observe
wounds_nobody_refused ordered = cc (((ordered follower_left).predecessors_stand 1 refl).0)

-- a commit that always refuses stops the oldest attempt at work
always_refuses_refused : ((h : List (Call ℕ)) → Live (engine_of commit_always_refuses) h) → ⊥
unfolding commit_always_refuses step promote grant grantable wound widen bonds before wounded_by_take wounded_by_give_up observe
always_refuses_refused live =
    let c = (live (Begin 0 ∷ [])).oldest_commits 0 refl in cc (c.1)

-- who waits does not run
waiting_not_running : Waiting ≡ Running → ⊥
waiting_not_running e = cc

-- a take that always waits lets the oldest attempt at work wait
always_waits_refused : ((h : List (Call ℕ)) → Live (engine_of take_always_waits) h) → ⊥
unfolding take_always_waits step promote grant grantable wound widen bonds before wounded_by_take wounded_by_give_up observe
always_waits_refused live = waiting_not_running (ap state_in ((live (Take 0 5 Exclusive ∷ Begin 0 ∷ [])).oldest_runs 0 refl))

-- each part of the law refuses at least one of them
pub empty_engines_refused : EmptyEnginesRefused
empty_engines_refused =
    record {
      give_up_wounds_nobody_not_ordered = wounds_nobody_refused;
      commit_writes_nothing_not_serial = writes_nothing_refused;
      commit_always_refuses_not_live = always_refuses_refused;
      take_always_waits_not_live = always_waits_refused;
    }
