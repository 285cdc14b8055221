-- What an observer reads off the calls and their answers: when an attempt starts, what it looked at and changed, what it was
-- granted, whom it follows, and when it is committed. The observer knows nothing of locks, wounds or promoting.
use Rattle.std.specs.Prelude.{ℕ, zero, suc, Bool, true, false, cond, not, ◌&&◌, ◌||◌, List, [], ◌∷◌, ◌++◌, Some, None, Option, ◌==◌, nat_lt}
use Rattle.rules.specs.declared.Mode.{Mode}
use Rattle.rules.specs.declared.Mode.TheVariants.{Shared, Exclusive}
use Rattle.rules.specs.declared.State.{State}
use Rattle.rules.specs.declared.State.TheVariants.{Idle, Running, Waiting, Wounded}
use Rattle.rules.specs.declared.Outcome.TheVariants.{Granted, Waits}
use Rattle.rules.specs.declared.Call.{Call}
use Rattle.rules.specs.declared.Call.TheVariants.{Begin, Take, Look, Change, Retire, Commit, GiveUp, Again, Standing, Plotted, Count}
use Rattle.rules.specs.declared.Answer.{Answer}
use Rattle.rules.specs.declared.Answer.TheVariants.{Refused, Number, Taken, Value, Committed, Stands}
use Rattle.rules.specs.Searches.{any_below}

-- An engine, seen from outside.

-- at one moment: what each next call would be answered
abbrev pub View : Type 0 → Type 0 → Type 0
View V C = Call C → Answer V

-- what each next call would be answered, after the calls so far, the newest first
abbrev pub Engine : Type 0 → Type 0 → Type 0
Engine V C = List (Call C) → View V C

-- the state in standing's answer; a station of which standing tells nothing has no attempt
abbrev pub state_in : {V : Type 0} → Answer V → State
state_in (Refused why) = Idle
state_in (Number n) = Idle
state_in (Taken outcome n) = Idle
state_in (Value v) = Idle
state_in (Committed n) = Idle
state_in (Stands s) = s.state

-- the stamp in standing's answer
abbrev pub stamp_in : {V : Type 0} → Answer V → Option ℕ
stamp_in (Refused why) = None
stamp_in (Number n) = None
stamp_in (Taken outcome n) = None
stamp_in (Value v) = None
stamp_in (Committed n) = None
stamp_in (Stands s) = s.stamp

-- is an attempt in this state at work?
abbrev pub working : State → Bool
working Idle = false
working Running = true
working Waiting = true
working Wounded = false

-- did the state turn from waiting to running?
abbrev pub turned : State → State → Bool
turned Idle is = false
turned Running is = false
turned Wounded is = false
turned Waiting Idle = false
turned Waiting Running = true
turned Waiting Waiting = false
turned Waiting Wounded = false

-- is the first stamp smaller than the second?
abbrev pub smaller : Option ℕ → Option ℕ → Bool
smaller None b = false
smaller (Some a) None = false
smaller (Some a) (Some b) = nat_lt a b

module _ {V C : Type 0} (w : View V C) where
  -- the state that standing would tell of station i
  abbrev pub state : ℕ → State
  state i = state_in (w (Standing i))

  -- the stamp that standing would tell of station i
  abbrev pub stamp : ℕ → Option ℕ
  stamp i = stamp_in (w (Standing i))

  -- is the attempt of station i at work?
  abbrev pub at_work : ℕ → Bool
  at_work i = working (state i)

  -- is the attempt of station j older than that of station i?
  abbrev pub older_than : ℕ → ℕ → Bool
  older_than j i = smaller (stamp j) (stamp i)

  -- is the attempt of station i the oldest at work?
  abbrev pub oldest : ℕ → Bool
  oldest i = at_work i && not (any_below 16 (λ j. at_work j && older_than j i))

-- What one call tells.

-- the station that a call names
abbrev pub caller : {C : Type 0} → Call C → Option ℕ
caller (Begin k) = Some k
caller (Take k r m) = Some k
caller (Look k r) = Some k
caller (Change k r c) = Some k
caller (Retire k r) = Some k
caller (Commit k) = Some k
caller (GiveUp k) = Some k
caller (Again k) = Some k
caller (Standing k) = Some k
caller (Plotted r) = None
caller Count = None

-- is it station i?
abbrev pub is_station : Option ℕ → ℕ → Bool
is_station None i = false
is_station (Some k) i = i == k

-- does a call name station i?
abbrev pub names : {C : Type 0} → Call C → ℕ → Bool
names c i = is_station (caller c) i

-- a look or a change that was not refused, with its answer
pub data Entry (V C : Type 0) : Type 0 where
  looked : ℕ → V → Entry V C
  changed : ℕ → C → V → Entry V C

-- what a call and its answer tell of the attempt of the station that the call names
pub data Event (V C : Type 0) : Type 0 where
  nothing starts commits ends : Event V C
  waits gets : ℕ → Mode → Event V C
  notes : Entry V C → Event V C

module _ {V C : Type 0} where
  -- an unrefused begin or again starts an attempt
  abbrev pub started_by : Answer V → Event V C
  started_by (Refused why) = nothing
  started_by (Number n) = starts
  started_by (Taken outcome n) = nothing
  started_by (Value v) = nothing
  started_by (Committed n) = nothing
  started_by (Stands s) = nothing

  -- a take is granted, or waits
  abbrev pub taken_by : ℕ → Mode → Answer V → Event V C
  taken_by r m (Refused why) = nothing
  taken_by r m (Number n) = nothing
  taken_by r m (Taken Granted n) = gets r m
  taken_by r m (Taken Waits n) = waits r m
  taken_by r m (Value v) = nothing
  taken_by r m (Committed n) = nothing
  taken_by r m (Stands s) = nothing

  -- a look or a change answers a value
  abbrev pub noted_by : (V → Entry V C) → Answer V → Event V C
  noted_by entry (Refused why) = nothing
  noted_by entry (Number n) = nothing
  noted_by entry (Taken outcome n) = nothing
  noted_by entry (Value v) = notes (entry v)
  noted_by entry (Committed n) = nothing
  noted_by entry (Stands s) = nothing

  -- a commit answers a commit number
  abbrev pub committed_by : Answer V → Event V C
  committed_by (Refused why) = nothing
  committed_by (Number n) = nothing
  committed_by (Taken outcome n) = nothing
  committed_by (Value v) = nothing
  committed_by (Committed n) = commits
  committed_by (Stands s) = nothing

  -- an unrefused give up ends an attempt
  abbrev pub given_up_by : Answer V → Event V C
  given_up_by (Refused why) = nothing
  given_up_by (Number n) = ends
  given_up_by (Taken outcome n) = nothing
  given_up_by (Value v) = nothing
  given_up_by (Committed n) = nothing
  given_up_by (Stands s) = nothing

  -- what a call and its answer tell
  abbrev pub told : Call C → Answer V → Event V C
  told (Begin k) a = started_by a
  told (Take k r m) a = taken_by r m a
  told (Look k r) a = noted_by (looked r) a
  told (Change k r c) a = noted_by (changed r c) a
  told (Retire k r) a = nothing
  told (Commit k) a = committed_by a
  told (GiveUp k) a = given_up_by a
  told (Again k) a = started_by a
  told (Standing k) a = nothing
  told (Plotted r) a = nothing
  told Count a = nothing

  -- what they tell of station i
  abbrev pub event : Call C → Answer V → ℕ → Event V C
  event c a i = cond (names c i) (told c a) nothing

  -- is an attempt committed?
  abbrev pub is_commit : Event V C → Bool
  is_commit nothing = false
  is_commit starts = false
  is_commit commits = true
  is_commit ends = false
  is_commit (waits r m) = false
  is_commit (gets r m) = false
  is_commit (notes e) = false

  -- is an attempt over?
  abbrev pub is_over : Event V C → Bool
  is_over nothing = false
  is_over starts = false
  is_over commits = true
  is_over ends = true
  is_over (waits r m) = false
  is_over (gets r m) = false
  is_over (notes e) = false

  -- is an attempt started?
  abbrev pub is_start : Event V C → Bool
  is_start nothing = false
  is_start starts = true
  is_start commits = false
  is_start ends = false
  is_start (waits r m) = false
  is_start (gets r m) = false
  is_start (notes e) = false

  -- what a take was granted
  abbrev pub granted_by : Event V C → Option (ℕ × Mode)
  granted_by nothing = None
  granted_by starts = None
  granted_by commits = None
  granted_by ends = None
  granted_by (waits r m) = None
  granted_by (gets r m) = Some (r, m)
  granted_by (notes e) = None

-- What is known of an attempt.

-- is a record held exclusively?
abbrev pub exclusively : Option Mode → Bool
exclusively None = false
exclusively (Some Shared) = false
exclusively (Some Exclusive) = true

-- its number (attempts count from 1 as they start, since again keeps the stamp), its looks and changes that were not refused,
-- the newest first, the record and mode that it last waited for, the records that it was granted, and the numbers of its
-- predecessors: the older attempts that held a record exclusively as it was granted that record
pub record Attempt (V C : Type 0) : Type 0 where
  pub number : ℕ
  pub entries : List (Entry V C)
  pub awaiting : Option (ℕ × Mode)
  pub held : ℕ → Option Mode
  pub predecessors : List ℕ

module _ {V C : Type 0} where
  -- an attempt that starts
  abbrev pub fresh : ℕ → Attempt V C
  fresh n = record { number = n; entries = []; awaiting = None; held = λ r. None; predecessors = [] }

  -- an attempt after an event; n is the number for one that starts. After its end nothing is left of it
  abbrev pub after_event : ℕ → Event V C → Attempt V C → Attempt V C
  after_event n nothing a = a
  after_event n starts a = fresh n
  after_event n commits a = fresh 0
  after_event n ends a = fresh 0
  after_event n (waits r m) a = record
      { number = a.number; entries = a.entries; awaiting = Some (r, m); held = a.held; predecessors = a.predecessors }
  after_event n (gets r m) a = a
  after_event n (notes e) a = record
      { number = a.number; entries = e ∷ a.entries; awaiting = a.awaiting; held = a.held; predecessors = a.predecessors }

  -- an attempt is granted a record when take answers granted, or in the call that turns its waiting to running
  abbrev pub granted_of : State → State → Event V C → Attempt V C → Option (ℕ × Mode)
  granted_of was is ev a = cond (turned was is) a.awaiting (granted_by ev)

  -- an attempt that holds what it was granted, from then on
  abbrev pub with_grant : Option (ℕ × Mode) → Attempt V C → Attempt V C
  with_grant None a = a
  with_grant (Some p) a =
      record {
        number = a.number;
        entries = a.entries;
        awaiting = a.awaiting;
        held = λ r. cond (r == p.0) (Some p.1)
            (a.held r);
        predecessors = a.predecessors;
      }

  -- an attempt that is at work after a call, of the states of its station before and after
  abbrev pub continued : ℕ → State → State → Event V C → Attempt V C → Attempt V C
  continued n was is ev a = with_grant (granted_of was is ev a) (after_event n ev a)

  -- an attempt after a call: over, if it is not at work, as one that was wounded
  abbrev pub followed : ℕ → State → State → Event V C → Attempt V C → Attempt V C
  followed n was is ev a = cond (working is) (continued n was is ev a) (fresh 0)

  -- the numbers of the attempts of the stations below n that hold record r exclusively and are older than that of station i
  abbrev pub older_holders : View V C → (ℕ → Attempt V C) → ℕ → ℕ → ℕ → List ℕ
  older_holders w attempts i r zero = []
  older_holders w attempts i r (suc n) =
      cond (older_than w n i && exclusively ((attempts n).held r)) ((attempts n).number ∷ older_holders w attempts i r n)
      (older_holders w attempts i r n)

  -- those that hold what was granted, as the call returns: one that ended in the call holds nothing any more
  abbrev pub predecessors_at : View V C → (ℕ → Attempt V C) → ℕ → Option (ℕ × Mode) → List ℕ
  predecessors_at w attempts i None = []
  predecessors_at w attempts i (Some p) = older_holders w attempts i p.0 16

  -- an attempt with more predecessors
  abbrev pub with_predecessors : List ℕ → Attempt V C → Attempt V C
  with_predecessors ps a = record
      { number = a.number; entries = a.entries; awaiting = a.awaiting; held = a.held; predecessors = ps ++ a.predecessors }

-- What is known after the calls so far.

-- of each station its attempt, how many attempts have started, and the committed attempts, the newest first
pub record Observation (V C : Type 0) : Type 0 where
  pub attempts : ℕ → Attempt V C
  pub started : ℕ
  pub committed : List (Attempt V C)

module _ {V C : Type 0} where
  -- the attempt of the station that a call names, added to those committed
  abbrev pub add_commit : Option ℕ → (ℕ → Attempt V C) → List (Attempt V C) → List (Attempt V C)
  add_commit None attempts committed = committed
  add_commit (Some k) attempts committed = attempts k ∷ committed

  -- the committed attempts after an event of the station that the call names
  abbrev pub commits_after : Event V C → Option ℕ → (ℕ → Attempt V C) → List (Attempt V C) → List (Attempt V C)
  commits_after ev k attempts committed = cond (is_commit ev) (add_commit k attempts committed) committed

  -- the attempts after call c, before predecessors are added
  abbrev pub heard : View V C → Call C → View V C → Observation V C → ℕ → Attempt V C
  heard w c w' o i = followed (suc o.started) (state w i) (state w' i) (event c (w c) i) (o.attempts i)

  -- what is known after call c, seen as w before it and as w' after it
  unfoldable pub observe : View V C → Call C → View V C → Observation V C → Observation V C
  observe w c w' o =
      record {
        attempts = λ i. with_predecessors
            (predecessors_at w' (heard w c w' o) i (granted_of (state w i) (state w' i) (event c (w c) i) (o.attempts i)))
            (heard w c w' o i);
        started = cond (is_start (told c (w c))) (suc o.started) o.started;
        committed = commits_after (told c (w c)) (caller c) o.attempts o.committed;
      }

  -- what is known after the calls so far
  abbrev pub observed : Engine V C → List (Call C) → Observation V C
  observed e [] = record { attempts = λ i. fresh 0; started = 0; committed = [] }
  observed e (c ∷ h) = observe (e h) c (e (c ∷ h)) (observed e h)

  -- is attempt p among those committed?
  abbrev pub is_committed : ℕ → List (Attempt V C) → Bool
  is_committed p [] = false
  is_committed p (a ∷ earlier) = a.number == p || is_committed p earlier

  -- is attempt p at work?
  abbrev pub attempt_at_work : View V C → (ℕ → Attempt V C) → ℕ → Bool
  attempt_at_work w attempts p = any_below 16 (λ j. at_work w j && (attempts j).number == p)
