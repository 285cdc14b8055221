-- What a call of the engine promises: its answer and the table after it are what the rules give, and the shelves stay themselves.
use Rattle.std.specs.Prelude.{◌≡◌, ℕ, length, Ok, Err, Result}
use Rattle.rules.specs.declared.Refusal.{Refusal}
use Rattle.rules.specs.declared.Outcome.{Outcome}
use Rattle.rules.specs.declared.Call.{Call}
use Rattle.rules.specs.declared.Answer.{Answer}
use Rattle.rules.specs.declared.Answer.TheVariants.{Refused, Taken}
use Rattle.rules.specs.Naming.{MayName}
use Rattle.rules.specs.Calls.{step}
use Rattle.values.specs.declared.kind.Kind.{Ghosts as KindMembers}
use Rattle.shelves.specs.declared.shelf.Shelf.{Ghosts as ShelfMembers}
use Rattle.engine.specs.declared.Engine.{Engine}
use Rattle.engine.specs.View.{view}

-- an answer of a call, as the rules have it
abbrev pub as_answer : {V X : Type 0} → (X → Answer V) → Result X Refusal → Answer V
as_answer f (Ok x) = f x
as_answer f (Err why) = Refused why

-- the two parts of take's answer
abbrev pub taken : {V : Type 0} → Outcome × ℕ → Answer V
taken p = Taken p.0 p.1

module _ {K S D V C N : Type 0} where
  -- the rules' step from the engine before to the one after, with the station named that a call other than commit does not name
  abbrev pub Ruled : KindMembers K V C N → ShelfMembers S K V C N → ShelfMembers D K V C N → Call C → Engine K S D V C N → Answer V → Engine K S D V C N → Type 0
  Ruled kind show drafts c before answer after = (answer, view kind show drafts after) ≡ step kind.applied 0 c (view kind show drafts before)

  -- the rules' step, with a station named that the call may name: which one is a free choice
  abbrev pub RuledNaming : KindMembers K V C N → ShelfMembers S K V C N → ShelfMembers D K V C N → Call C → Engine K S D V C N → Answer V → Engine K S D V C N → Type 0
  RuledNaming kind show drafts c before answer after =
      (named : ℕ) × MayName c (view kind show drafts before) named × ((answer, view kind show drafts after) ≡ step kind.applied named c (view kind show drafts before))

-- what every call keeps of a shelf: its count, the lent memory that it lies in, and what else held of that memory
pub record Kept {S K V C N : Type 0} (shelf : ShelfMembers S K V C N) (before after : S) : Type 0 where
  pub same_count : length (shelf.rows after) ≡ length (shelf.rows before)
  pub same_memory : shelf.memory after ≡ shelf.memory before
  pub stays_sound : shelf.sound before → shelf.sound after
