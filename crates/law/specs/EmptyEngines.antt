-- Engines that do less than they should, and the part of the law that refuses each. Values are numbers, and a change goes up by
-- an amount; each engine does one call wrongly and leaves the others to the rules.
use Rattle.std.specs.Prelude.{ℕ, ◌+◌, List, [], ◌∷◌, Some, None, Option}
use Rattle.rules.specs.declared.Mode.{Mode}
use Rattle.rules.specs.declared.Outcome.TheVariants.{Waits}
use Rattle.rules.specs.declared.Call.{Call}
use Rattle.rules.specs.declared.Call.TheVariants.{Begin, Take, Look, Change, Retire, Commit, GiveUp, Again, Standing, Plotted, Count}
use Rattle.rules.specs.declared.Answer.{Answer}
use Rattle.rules.specs.declared.Answer.TheVariants.{Refused, Number, Taken}
use Rattle.rules.specs.Tables.{Table, idle_station, put, with_stations}
use Rattle.rules.specs.Operations.{settle, add_wait}
use Rattle.rules.specs.Calls.{step, opened}
use Rattle.law.specs.Observer.{Engine}
use Rattle.law.specs.Law.{Serial, Ordered, Live}
use Rattle.rules.specs.declared.Refusal.TheVariants as refusal

-- what a call does to a table
abbrev pub Step : Type 0
Step = Call ℕ → Table ℕ → Answer ℕ × Table ℕ

-- a change goes up
abbrev pub up : ℕ → ℕ → ℕ
up v c = v + c

-- the table after the calls so far, the newest first
abbrev pub table_of : Step → List (Call ℕ) → Table ℕ
table_of s [] = opened 1 (λ r. 100) 7
table_of s (c ∷ h) = (s c (table_of s h)).1

-- the engine of a step
abbrev pub engine_of : Step → Engine ℕ ℕ
engine_of s h c = (s c (table_of s h)).0

-- the rules, but for one kind of call: `kind` has the arguments of such a call, and `does` is what is done instead
abbrev pub instead : {A : Type 0} → (Call ℕ → Option A) → (A → Table ℕ → Answer ℕ × Table ℕ) → Step
instead kind does c t = elim (kind c) [ Some a ↦ does a t | None ↦ step up 0 c t ]

-- the station that gives up
abbrev pub gives_up : Call ℕ → Option ℕ
gives_up (Begin k) = None
gives_up (Take k r m) = None
gives_up (Look k r) = None
gives_up (Change k r c) = None
gives_up (Retire k r) = None
gives_up (Commit k) = None
gives_up (GiveUp k) = Some k
gives_up (Again k) = None
gives_up (Standing k) = None
gives_up (Plotted r) = None
gives_up Count = None

-- the station that commits
abbrev pub commits : Call ℕ → Option ℕ
commits (Begin k) = None
commits (Take k r m) = None
commits (Look k r) = None
commits (Change k r c) = None
commits (Retire k r) = None
commits (Commit k) = Some k
commits (GiveUp k) = None
commits (Again k) = None
commits (Standing k) = None
commits (Plotted r) = None
commits Count = None

-- the station that takes, the record and the mode
abbrev pub takes : Call ℕ → Option (ℕ × ℕ × Mode)
takes (Begin k) = None
takes (Take k r m) = Some (k, r, m)
takes (Look k r) = None
takes (Change k r c) = None
takes (Retire k r) = None
takes (Commit k) = None
takes (GiveUp k) = None
takes (Again k) = None
takes (Standing k) = None
takes (Plotted r) = None
takes Count = None

-- a give up that wounds nobody
unfoldable pub give_up_wounds_nobody : Step
give_up_wounds_nobody = instead gives_up
    (λ k t. (Number 0, with_stations t (settle t.show (put t.stations k idle_station))))

-- a commit that writes nothing
unfoldable pub commit_writes_nothing : Step
commit_writes_nothing =
    instead commits (λ k t. (
      (step up 0 (Commit k) t).0,
      (let u = (step up 0 (Commit k) t).1 in
          record
          { stations = u.stations; next_stamp = u.next_stamp; commits = u.commits; show = t.show; records = u.records }),
    ))

-- a commit that always refuses
unfoldable pub commit_always_refuses : Step
commit_always_refuses = instead commits (λ k t. (Refused refusal.Waiting, t))

-- a take that always waits
unfoldable pub take_always_waits : Step
take_always_waits = instead takes (λ a t. (Taken Waits 0, with_stations t (add_wait t.stations a.0 a.1 a.2)))

-- each part of the law refuses at least one of them
pub record EmptyEnginesRefused : Type 0 where
  pub give_up_wounds_nobody_not_ordered : ((h : List (Call ℕ)) → Ordered (engine_of give_up_wounds_nobody) h) → ⊥
  pub commit_writes_nothing_not_serial : ((h : List (Call ℕ)) → Serial up (engine_of commit_writes_nothing) h) → ⊥
  pub commit_always_refuses_not_live : ((h : List (Call ℕ)) → Live (engine_of commit_always_refuses) h) → ⊥
  pub take_always_waits_not_live : ((h : List (Call ℕ)) → Live (engine_of take_always_waits) h) → ⊥
