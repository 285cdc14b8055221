-- Granting one wait, and granting one after the other, in the view.
use Rattle.std.proofs.Common.{◌≡◌, ℕ, suc, ◌+◌, ◌-◌, ◌*◌, ◌<◌, List, length, set, Some, None, Option, sym, refl, ap, ◌∙◌, arith}
use mathlib.Core.Path.{fun_ext}
use Rattle.std.proofs.lemmas.Bool.Decides.{nat_tests}
use Rattle.std.proofs.lemmas.Grind.{common_steps}
use Rattle.rules.specs.declared.Mode.{Mode}
use Rattle.rules.specs.Searches.{first_below, until}
use Rattle.rules.specs.Tables.{Stations}
use Rattle.rules.specs.Operations.{before, draft_for, grantable, grant, promote}
use Rattle.locks.specs.declared.station.Station.{Station}
use Rattle.locks.specs.declared.table.LockTable.{LockTable}
use Rattle.locks.specs.View.{bare, stations_with, awaited_in, awaited_at}
use Rattle.locks.specs.Changes.{change, granted}
use Rattle.locks.proofs.Drafts.{grantable_same}
use Rattle.locks.proofs.Kept.{room_at}
use Rattle.locks.proofs.ChangedViews.{drafts_beyond, granted_by_rules}
use Rattle.engine.specs.View.{drafts_of, held_of}
use Rattle.shelves.specs.declared.shelf.Shelf.{Ghosts as ShelfMembers}
use Rattle.engine.specs.declared.Engine.{Engine}
use Rattle.engine.proofs.Steps.{kept_both}
use Rattle.engine.specs.Promoting.{OnlyStations}
use Rattle.engine.proofs.RowsRead.{draft_other}

-- a station and a place have a row
pub row_fits : (t : LockTable) (s r k : ℕ) (m : Mode) → Some (r, m) ≡ awaited_at t.stations s → k ≡ held_of t s → (s < 16) × (k < 16)
row_fits t s r k m waits place =
    let room = room_at t.stations s r m t.full t.room waits in
    let low : s < 16 = room.0 in
    let free = room.1 in
    (low, omega arith)

module _ {V : Type 0} (home : V) (drafts rows : List V) (t : LockTable) (s r k : ℕ) (m : Mode) (new : V) (waits : Some (r, m) ≡ awaited_at t.stations s)
    (place : k ≡ held_of t s) (written : rows ≡ set drafts (16 * s + k) new) where
  -- no hold has that draft yet
  pub draft_unseen : stations_with (drafts_of home rows) t.stations ≡ stations_with (drafts_of home drafts) t.stations
  draft_unseen =
      let fit = row_fits t s r k m waits place in
      drafts_beyond (drafts_of home rows) (drafts_of home drafts) t.stations (λ i n low.
      ap (λ l. drafts_of home l i n) written ∙ draft_other home drafts s k new fit.1 i n (apart i n low))
    where
      apart : (i n : ℕ) → n < held_of t i → i ≡ s → n ≡ k → ⊥
      apart i n low same e = let w = ap (λ (j : ℕ). (held_of t j)) same in omega (arith, low, w, place, e)

-- a change of a station that starts no wait
abbrev pub NoNewWait : (Station → Station) → Type 0
NoNewWait f = (x : Station) (p : ℕ × Mode) → Some p ≡ awaited_in (f x).phase → Some p ≡ awaited_in x.phase

-- after such a change nobody waits who did not before
pub waits_before : (f : Station → Station) → NoNewWait f → (xs : List Station) (s i : ℕ) (p : ℕ × Mode) → s < length xs → Some p ≡ awaited_at (change f s xs) i → Some p ≡ awaited_at xs i
waits_before f none xs s i p low e = grind (arith, common_steps, nat_tests)

module _ {V : Type 0} (these those : ℕ → ℕ → V) (show : ℕ → V) (t : LockTable) (s : ℕ) where
  -- the grant of the code is that of the rules
  pub granted_station : (ys : List Station) (r : ℕ) (m : Mode) → Some (r, m) ≡ awaited_at t.stations s → ys ≡ change granted s t.stations
      → stations_with those t.stations ≡ stations_with these t.stations
      → draft_for m (those s (held_of t s)) ≡ draft_for m (before (stations_with these t.stations) show s r)
      → stations_with those ys ≡ grant show s (stations_with these t.stations)
  granted_station ys r m waits e unseen started =
      let room = room_at t.stations s r m t.full t.room waits in
      let low : s < 16 = room.0 in let full : length t.stations ≡ 16 = t.full in
      ap (stations_with those) e
      ∙ granted_by_rules those t.stations show s r m (omega arith) waits (started ∙ ap (λ (u : Stations V). draft_for m (before u show s r)) (sym unseen))
      ∙ ap (grant show s) unseen

  -- where the station does not wait, the rules grant nothing
  pub nothing_granted : None ≡ awaited_at t.stations s → stations_with these t.stations ≡ grant show s (stations_with these t.stations)
  unfolding grant
  nothing_granted e = fun_ext (λ j. grind (arith, nat_tests, common_steps))

-- at most n waits granted
unfoldable pub promote_within : {V : Type 0} → ℕ → (ℕ → V) → Stations V → Stations V
promote_within n show t = until n (λ u. first_below 16 (grantable u)) (grant show) t

module _ {V : Type 0} (show : ℕ → V) (drafts : ℕ → ℕ → V) (xs : List Station) where
  -- the first that may be granted does not depend on the drafts
  picked : (o : Option ℕ) → o ≡ first_below 16 (grantable (bare xs)) → first_below 16 (grantable (stations_with drafts xs)) ≡ o
  picked o e = ap (first_below 16) (grantable_same drafts (λ i k. tt {0}) xs) ∙ sym e

  -- one round grants the first, with one round fewer left
  pub promote_round : (m n s : ℕ) → m ≡ suc n → Some s ≡ first_below 16 (grantable (bare xs))
      → promote_within m show (stations_with drafts xs) ≡ promote_within n show (grant show s (stations_with drafts xs))
  unfolding promote_within
  promote_round m n s e f =
      ap (λ (x : ℕ). until x (λ u. first_below 16 (grantable u)) (grant show) t) e
      ∙ ap (λ (o : Option ℕ). elim o [ None ↦ t | Some k ↦ until n (λ u. first_below 16 (grantable u)) (grant show) (grant show k t) ]) (picked (Some s) f)
    where
      t : Stations V
      t = stations_with drafts xs

  -- where no wait may be granted, the stations stay
  pub promote_done : (m n : ℕ) → m ≡ suc n → None ≡ first_below 16 (grantable (bare xs)) → promote_within m show (stations_with drafts xs) ≡ stations_with drafts xs
  unfolding promote_within
  promote_done m n e f =
      ap (λ (x : ℕ). until x (λ u. first_below 16 (grantable u)) (grant show) t) e
      ∙ ap (λ (o : Option ℕ). elim o [ None ↦ t | Some k ↦ until n (λ u. first_below 16 (grantable u)) (grant show) (grant show k t) ]) (picked None f)
    where
      t : Stations V
      t = stations_with drafts xs

-- with no round left, the stations stay
pub promote_over : {V : Type 0} (show : ℕ → V) (m : ℕ) (t : Stations V) → m ≡ 0 → promote_within m show t ≡ t
unfolding promote_within
promote_over show m t e = ap (λ (x : ℕ). until x (λ u. first_below 16 (grantable u)) (grant show) t) e

-- sixteen rounds are the rules' promoting
pub promote_all : {V : Type 0} (show : ℕ → V) (t : Stations V) → promote_within 16 show t ≡ promote show t
unfolding promote_within promote
promote_all show t = refl

-- the rounds that are left, before and after one
pub one_fewer : (n : ℕ) → n < 16 → 16 - n ≡ suc (16 - (n + 1))
one_fewer n h = omega arith

-- Steps that change nothing but stations and drafts.

module _ {K S D V C N : Type 0} (drafts : ShelfMembers D K V C N) where
  -- two of them are one
  pub stations_both : {a b c : Engine K S D V C N} → OnlyStations drafts a b → OnlyStations drafts b c → OnlyStations drafts a c
  stations_both p q = record {
    same_show = q.same_show ∙ p.same_show;
    same_stamp = q.same_stamp ∙ p.same_stamp;
    same_commits = q.same_commits ∙ p.same_commits;
    kept_drafts = kept_both p.kept_drafts q.kept_drafts;
  }
