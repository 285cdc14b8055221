-- What promoting needs, and what it leaves of an engine.
use Rattle.std.specs.Prelude.{◌≡◌, ℕ, List, length, Some}
use Rattle.rules.specs.declared.Mode.{Mode}
use Rattle.locks.specs.declared.station.Station.{Station}
use Rattle.locks.specs.View.{awaited_at}
use Rattle.shelves.specs.declared.shelf.Shelf.{Ghosts as ShelfMembers}
use Rattle.engine.specs.declared.Engine.{Engine}
use Rattle.engine.specs.Answers.{Kept}

-- where some station waits, the drafts have the rows for every hold
abbrev pub RowsFor : {V : Type 0} → List Station → List V → Type 0
RowsFor stations drafts = (i : ℕ) (p : ℕ × Mode) → Some p ≡ awaited_at stations i → length drafts ≡ 256

module _ {K S D V C N : Type 0} where
  -- the same of an engine
  abbrev pub Served : ShelfMembers D K V C N → Engine K S D V C N → Type 0
  Served drafts e = RowsFor e.locks.stations (drafts.rows e.drafts)

-- a step that changes nothing but stations and drafts
pub record OnlyStations {K S D V C N : Type 0} (drafts : ShelfMembers D K V C N) (before after : Engine K S D V C N) : Type 0 where
  pub same_show : after.show ≡ before.show
  pub same_stamp : after.locks.next ≡ before.locks.next
  pub same_commits : after.locks.commits ≡ before.locks.commits
  pub kept_drafts : Kept drafts before.drafts after.drafts
