-- How an engine reads as a table of the rules.
use Rattle.std.specs.Prelude.{◌≡◌, ℕ, zero, suc, ◌+◌, ◌*◌, Bool, cond, ◌&&◌, List, length, Some, None, Option, Ok, Err, Result, ◌==◌, nat_le, nat_lt, slice_index_or, slice_set}
use Rattle.rules.specs.Tables.{Stations, Table}
use Rattle.rules.specs.Operations.{before, draft_for}
use Rattle.rules.specs.Calls.{opened}
use Rattle.locks.specs.declared.station.Hold.{Hold}
use Rattle.locks.specs.Hand.{no_hold}
use Rattle.locks.specs.View.{no_station, hand_at, stations_with}
use Rattle.locks.specs.Asked.{hold_at}
use Rattle.locks.specs.declared.table.LockTable.{LockTable}
use Rattle.locks.specs.Admission.{table_with}
use Rattle.values.specs.declared.kind.Kind.{Ghosts as KindMembers}
use Rattle.shelves.specs.declared.shelf.Shelf.{Ghosts as ShelfMembers}
use Rattle.engine.specs.declared.Engine.{Engine}
use Rattle.engine.specs.declared.fitting.Unfit.{Unfit}

-- the show has 1 to 1,984 records and the drafts 256 rows
abbrev pub fits : ℕ → ℕ → Bool
fits show drafts = nat_le 1 show && nat_le show 1984 && drafts == 256

abbrev pub fit_number : ℕ → ℕ → ℕ
fit_number show drafts = cond (fits show drafts) 0 20

-- whether they fit
abbrev pub fit_answer : ℕ → ℕ → Result (Unit {0}) Unfit
fit_answer show drafts = cond (fits show drafts) (Ok tt) (Err (record {}))

-- shelves that do not fit have no records
abbrev pub records_of : ℕ → ℕ → ℕ
records_of show drafts = cond (fits show drafts) show 0

-- the draft of a hold with this value in its row
abbrev pub draft_of_hold : {V : Type 0} → Option Hold → V → Option V
draft_of_hold None v = None
draft_of_hold (Some h) v = draft_for h.mode v

-- the rows with a draft, if there is one, put at row r
abbrev pub put_draft : {V : Type 0} → Option V → ℕ → List V → List V
put_draft None r rows = rows
put_draft (Some v) r rows = slice_set rows r v

-- the rows with the draft v of a hold, if it is exclusive, put at its record
abbrev pub with_draft : {V : Type 0} → Option Hold → V → List V → List V
with_draft None v rows = rows
with_draft (Some h) v rows = put_draft (draft_for h.mode v) h.at rows

-- the rows with the drafts of the first n holds of a hand put at their records, one after the other
abbrev pub with_drafts : {V : Type 0} → (ℕ → V) → List Hold → ℕ → List V → List V
with_drafts drafts hand zero rows = rows
with_drafts drafts hand (suc n) rows = with_draft (Some (slice_index_or hand n no_hold)) (drafts n) (with_drafts drafts hand n rows)

module _ {V : Type 0} (home : V) where
  -- the plotted values
  abbrev pub show_of : List V → ℕ → V
  show_of rows r = slice_index_or rows r home

  -- place k of station i, one of sixteen, has the draft in row 16 i + k
  abbrev pub drafts_of : List V → ℕ → ℕ → V
  drafts_of rows i k = cond (nat_lt k 16) (slice_index_or rows (16 * i + k) home) home

  -- the table of two lists of rows and a lock table
  abbrev pub table_from : List V → List V → LockTable → Table V
  table_from show drafts locks = table_with (drafts_of drafts) (show_of show) locks (records_of (length show) (length drafts))

-- the hand of station s, and how many holds it has
abbrev pub hand_of : LockTable → ℕ → List Hold
hand_of locks s = hand_at locks.stations s

abbrev pub held_of : LockTable → ℕ → ℕ
held_of locks s = length (hand_of locks s)

-- the hold at place k of station s, if the place is in use
abbrev pub own_hold : LockTable → ℕ → ℕ → Option Hold
own_hold locks s k = hold_at (slice_index_or locks.stations s no_station) k

-- the rows with the drafts of station s put at the records of its exclusive holds
abbrev pub with_own_drafts : {V : Type 0} → (ℕ → V) → LockTable → ℕ → List V → List V
with_own_drafts drafts locks s rows = with_drafts drafts (hand_of locks s) (held_of locks s) rows

-- An engine over a kind and two shelves, by what the kind and the shelves say of themselves.
module _ {K S D V C N : Type 0} where
  -- the plotted values
  abbrev pub shown : KindMembers K V C N → ShelfMembers S K V C N → Engine K S D V C N → ℕ → V
  shown kind show e = show_of kind.home (show.rows e.show)

  -- the drafts, by station and place
  abbrev pub drafted : KindMembers K V C N → ShelfMembers D K V C N → Engine K S D V C N → ℕ → ℕ → V
  drafted kind drafts e = drafts_of kind.home (drafts.rows e.drafts)

  -- the draft of the hold at place k of station s, if it is exclusive
  abbrev pub own_draft : KindMembers K V C N → ShelfMembers D K V C N → Engine K S D V C N → ℕ → ℕ → Option V
  own_draft kind drafts e s k = draft_of_hold (own_hold e.locks s k) (drafted kind drafts e s k)

  -- the stations, with their drafts
  abbrev pub stations_of : KindMembers K V C N → ShelfMembers D K V C N → Engine K S D V C N → Stations V
  stations_of kind drafts e = stations_with (drafted kind drafts e) e.locks.stations

  -- the table of the rules that an engine is
  abbrev pub view : KindMembers K V C N → ShelfMembers S K V C N → ShelfMembers D K V C N → Engine K S D V C N → Table V
  view kind show drafts e = table_from kind.home (show.rows e.show) (drafts.rows e.drafts) e.locks

  -- the table of a new engine on two shelves, with its first stamp
  abbrev pub opened_on : KindMembers K V C N → ShelfMembers S K V C N → ShelfMembers D K V C N → S → D → ℕ → Table V
  opened_on kind show drafts s d first = opened first (show_of kind.home (show.rows s)) (records_of (length (show.rows s)) (length (drafts.rows d)))

  -- what stands before station s at record r
  abbrev pub stands_before : KindMembers K V C N → ShelfMembers S K V C N → ShelfMembers D K V C N → Engine K S D V C N → ℕ → ℕ → V
  stands_before kind show drafts e s r = before (stations_of kind drafts e) (shown kind show e) s r

-- two tables agree in every field, and in every station and plotted value
pub record SameTable {V : Type 0} (t u : Table V) : Type 0 where
  pub stations : (i : ℕ) → t.stations i ≡ u.stations i
  pub next_stamp : t.next_stamp ≡ u.next_stamp
  pub commits : t.commits ≡ u.commits
  pub show : (r : ℕ) → t.show r ≡ u.show r
  pub records : t.records ≡ u.records
