-- Plotting cases: calls with the answers that the rules give. Values are numbers, and a change goes up by an amount.
-- Seven records hold 100; stations 0, 1 and 2 have begun in that order, from stamp 1.
use Rattle.std.specs.Prelude.{◌≡◌, ℕ, ◌+◌, List, [], ◌∷◌, map, Some, None, Option}
use Rattle.rules.specs.declared.Mode.TheVariants.{Shared, Exclusive}
use Rattle.rules.specs.declared.State.{State}
use Rattle.rules.specs.declared.State.TheVariants.{Running, Waiting}
use Rattle.rules.specs.declared.Outcome.TheVariants.{Granted, Waits}
use Rattle.rules.specs.declared.Call.{Call}
use Rattle.rules.specs.declared.Call.TheVariants.{Begin, Take, Look, Change, Retire, Commit, GiveUp, Again, Standing, Plotted, Count}
use Rattle.rules.specs.declared.Answer.{Answer}
use Rattle.rules.specs.declared.Answer.TheVariants.{Refused, Number, Taken, Value, Committed, Stands}
use Rattle.rules.specs.Searches.{first_below}
use Rattle.rules.specs.Tables.{Table}
use Rattle.rules.specs.Operations.{behind_bond}
use Rattle.rules.specs.Calls.{step, opened}
use Rattle.rules.specs.declared.Refusal.TheVariants as refusal

-- calls, each with its answer
abbrev pub Play : Type 0
Play = List (Call ℕ × Answer ℕ)

-- a number, or 0
abbrev pub or_zero : Option ℕ → ℕ
or_zero None = 0
or_zero (Some n) = n

-- the station that a refused commit names here: the first behind a bond
abbrev pub first_named : {V C : Type 0} → Call C → Table V → ℕ
first_named (Begin i) t = 0
first_named (Take i r m) t = 0
first_named (Look i r) t = 0
first_named (Change i r c) t = 0
first_named (Retire i r) t = 0
first_named (Commit i) t = or_zero (first_below 16 (behind_bond t.stations i))
first_named (GiveUp i) t = 0
first_named (Again i) t = 0
first_named (Standing i) t = 0
first_named (Plotted r) t = 0
first_named Count t = 0

-- the answers that the rules give to the calls of a play
unfoldable pub played : Play → Table ℕ → List (Answer ℕ)
played [] t = []
played (p ∷ ps) t = let s = step (λ v c. v + c) (first_named p.0 t) p.0 t in s.0 ∷ played ps s.1

-- the table at the start
unfoldable pub start : Table ℕ
start = opened 1 (λ r. 100) 7

-- a play, after the three stations have begun
unfoldable pub begun : Play → Play
begun ps =
    (Begin 0, Number 1)
    ∷ (Begin 1, Number 2)
    ∷ (Begin 2, Number 3) ∷ ps

-- the answers written beside the calls
unfoldable pub written : Play → List (Answer ℕ)
written ps = map (λ (p : Call ℕ × Answer ℕ). p.1) ps

-- standing tells this: the state, the stamp, the bonds, and the record waited for
abbrev pub stands : State → ℕ → ℕ → Option ℕ → Answer ℕ
stands state stamp bonds record_number = Stands
    (record { state = state; stamp = Some stamp; bonds = bonds; awaits = record_number })

-- The cases.

-- station 0 goes up 50 and retires the record, and station 1, which waited, goes up 10 on its draft
unfoldable pub built_on_draft : Play → Play
built_on_draft ps =
    (Take 0 5 Exclusive, Taken Granted 0)
    ∷ (Change 0 5 50, Value 150)
    ∷ (Take 1 5 Exclusive, Taken Waits 0)
    ∷ (Retire 0 5, Number 1)
    ∷ (Change 1 5 10, Value 160) ∷ ps

-- 1: the one that built on the draft commits after the one that made it
unfoldable pub follower_commits_later : Play
follower_commits_later =
    built_on_draft
    ((Commit 1, Refused (refusal.Bound 1 0))
    ∷ (Commit 0, Committed 1)
    ∷ (Commit 1, Committed 2)
    ∷ (Plotted 5, Value 160) ∷ [])

-- 2: the one that built on the draft ends with the one that made it
unfoldable pub follower_ends_too : Play
follower_ends_too =
    built_on_draft
    ((GiveUp 0, Number 1)
    ∷ (Commit 1, Refused refusal.Wounded)
    ∷ (Again 1, Number 2)
    ∷ (Plotted 5, Value 100) ∷ [])

-- 3: an older exclusive take wounds a younger shared holder
unfoldable pub writer_wounds_reader : Play
writer_wounds_reader =
    (Take 1 5 Shared, Taken Granted 0)
    ∷ (Take 0 5 Exclusive, Taken Granted 1) ∷ []

-- 4: an older shared take wounds a younger exclusive holder
unfoldable pub reader_wounds_writer : Play
reader_wounds_writer =
    (Take 1 5 Exclusive, Taken Granted 0)
    ∷ (Take 0 5 Shared, Taken Granted 1)
    ∷ (Look 0 5, Value 100) ∷ []

-- 5: two shared holds do not conflict
unfoldable pub both_share : Play
both_share =
    (Take 0 5 Shared, Taken Granted 0)
    ∷ (Take 1 5 Shared, Taken Granted 0) ∷ []

-- 6: a shared hold that is given up takes its bond along, and wounds nobody. Misread: its followers are wounded
unfoldable pub shared_give_up_wounds_nobody : Play
shared_give_up_wounds_nobody =
    (Take 0 5 Shared, Taken Granted 0)
    ∷ (Retire 0 5, Number 0)
    ∷ (Take 1 5 Exclusive, Taken Granted 0)
    ∷ (Standing 1, stands Running 2 1 None)
    ∷ (GiveUp 0, Number 0)
    ∷ (Standing 1, stands Running 2 0 None) ∷ []

-- 7: widening goes on past the direct followers: station 2 follows station 1, which follows station 0. Misread: it stops after
-- station 1
unfoldable pub widening_goes_on : Play
widening_goes_on =
    (Take 0 5 Exclusive, Taken Granted 0)
    ∷ (Retire 0 5, Number 0)
    ∷ (Take 1 5 Exclusive, Taken Granted 0)
    ∷ (Take 1 6 Exclusive, Taken Granted 0)
    ∷ (Retire 1 6, Number 0)
    ∷ (Take 2 6 Shared, Taken Granted 0)
    ∷ (GiveUp 0, Number 2) ∷ []

-- 8: a shared wait is not granted past an older exclusive one. Misread: station 2 is granted at once
unfoldable pub older_wait_first : Play
older_wait_first =
    (Take 0 5 Shared, Taken Granted 0)
    ∷ (Take 1 5 Exclusive, Taken Waits 0)
    ∷ (Take 2 5 Shared, Taken Waits 0)
    ∷ (Retire 0 5, Number 1)
    ∷ (Standing 2, stands Waiting 3 0 (Some 5)) ∷ []

-- 9: a shared hold has a bond too, and each record counts
unfoldable pub bonds_count_records : Play
bonds_count_records =
    (Take 0 5 Exclusive, Taken Granted 0)
    ∷ (Retire 0 5, Number 0)
    ∷ (Take 0 6 Exclusive, Taken Granted 0)
    ∷ (Retire 0 6, Number 0)
    ∷ (Take 1 5 Shared, Taken Granted 0)
    ∷ (Take 1 6 Shared, Taken Granted 0)
    ∷ (Standing 1, stands Running 2 2 None) ∷ []

-- the nine cases
unfoldable pub cases : List Play
cases =
    follower_commits_later
    ∷ follower_ends_too
    ∷ writer_wounds_reader
    ∷ reader_wounds_writer
    ∷ both_share
    ∷ shared_give_up_wounds_nobody
    ∷ widening_goes_on
    ∷ older_wait_first
    ∷ bonds_count_records ∷ []

-- Misreadings. Each of these plays would go otherwise under one.

-- Misread: promoting before the taker's own wait is added. It would grant the younger station 2, as station 1 is wounded
unfoldable pub own_wait_before_promoting : Play
own_wait_before_promoting =
    (Take 1 5 Exclusive, Taken Granted 0)
    ∷ (Take 2 5 Exclusive, Taken Waits 0)
    ∷ (Take 0 5 Exclusive, Taken Granted 1)
    ∷ (Standing 2, stands Waiting 3 0 (Some 5)) ∷ []

-- Misread: promoting only the record taken. It would leave station 2 waiting for another record that station 1 held
unfoldable pub all_records_promoted : Play
all_records_promoted =
    (Take 1 5 Exclusive, Taken Granted 0)
    ∷ (Take 1 6 Exclusive, Taken Granted 0)
    ∷ (Take 2 6 Exclusive, Taken Waits 0)
    ∷ (Take 0 5 Shared, Taken Granted 1)
    ∷ (Standing 2, stands Running 3 0 None) ∷ []

-- Misread: a stamp that is given twice. Again keeps its stamp, and begin never gives one anew
unfoldable pub stamps_not_reused : Play
stamps_not_reused =
    (Commit 2, Committed 1)
    ∷ (Begin 2, Number 4)
    ∷ (Take 2 5 Exclusive, Taken Granted 0)
    ∷ (Take 1 5 Exclusive, Taken Granted 1)
    ∷ (Again 2, Number 4)
    ∷ (Standing 2, stands Running 4 0 None) ∷ []

-- the plays that a misreading would turn; three of them are among the nine cases
unfoldable pub misreadings : List Play
misreadings =
    own_wait_before_promoting
    ∷ shared_give_up_wounds_nobody
    ∷ widening_goes_on
    ∷ older_wait_first
    ∷ all_records_promoted
    ∷ stamps_not_reused ∷ []

-- of each play in a list, the rules give the answers written beside its calls
abbrev pub AsWritten : List Play → Type 0
AsWritten plays = map (λ p. played (begun p) start) plays ≡ map (λ p. written (begun p)) plays

-- the nine cases, as one fact over their list
abbrev pub CasesHold : Type 0
CasesHold = AsWritten cases

-- the misreadings are held off
abbrev pub MisreadingsHeldOff : Type 0
MisreadingsHeldOff = AsWritten misreadings
