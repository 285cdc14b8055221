-- Commit, in the view.
use Rattle.std.proofs.Common.{◌≡◌, ℕ, zero, suc, ◌+◌, ◌<◌, ◌≤◌, Bool, true, false, cond, not, eqb, List, length, get_or, Some, None, sym, refl, ap, ◌∙◌, subst, ⊎_elim, add-one, arith, length-set, leb-false}
use mathlib.Core.Path.{fun_ext}
use Rattle.std.proofs.lemmas.Bool.Decides.{nat_tests}
use Rattle.std.proofs.lemmas.Grind.{common_steps}
use Rattle.std.proofs.lemmas.Bool.{cases_lt, eqb-false}
use Rattle.rules.specs.declared.Call.TheVariants.{Commit}
use Rattle.rules.specs.declared.Answer.TheVariants.{Committed}
use Rattle.rules.specs.Tables as rules
use Rattle.rules.specs.Tables.{hold_on, draft_in}
use Rattle.rules.specs.Operations.{seen, bonds, behind_bond, settle}
use Rattle.rules.specs.Calls.{refusals, first_refusal, step, after}
use Rattle.rules.specs.Orderly.{Distinct, Orderly}
use Rattle.rules.proofs.Admission.{all_tests_fail, commit_admitted}
use Rattle.locks.specs.declared.station.Hold.{Hold}
use Rattle.locks.specs.declared.station.Station.{Station}
use Rattle.locks.specs.declared.table.LockTable.{LockTable}
use Rattle.locks.specs.Hand.{no_hold}
use Rattle.locks.specs.View.{bare, hold_with, hand_with, stations_with, awaited_at, active_at}
use Rattle.locks.specs.Admission.{table_with, table_of, refused}
use Rattle.locks.specs.Changes.{change, freed}
use Rattle.locks.proofs.Drafts.{commit_same, bonds_same, behind_bond_same}
use Rattle.locks.proofs.ChangedViews.{freed_view}
use Rattle.engine.specs.View.{records_of, drafts_of, show_of, table_from, with_drafts, hand_of, held_of}
use Rattle.engine.specs.Promoting.{RowsFor}
use Rattle.engine.proofs.Steps.{table_of_all, accepted_naming}
use Rattle.engine.proofs.Grants.{waits_before}
use Rattle.engine.proofs.GivesUp.{freed_waits_not, orderly_served}

module _ {V : Type 0} (home : V) (drafts : ℕ → V) (hand : List Hold) (rows : List V) where
  -- writing drafts keeps the count
  drafts_length : (n : ℕ) → length (with_drafts drafts hand n rows) ≡ length rows
  drafts_length zero = refl
  drafts_length (suc n) = grind (arith, length-set, drafts_length n)

  -- the rows with the drafts of distinct records written are what the holder of the hand sees
  drafts_seen : (n : ℕ) → Distinct (hand_with drafts hand n) → ((k : ℕ) → k < n → (get_or hand k no_hold).at < length rows)
      → (r : ℕ) → show_of home (with_drafts drafts hand n rows) r ≡ seen (hand_with drafts hand n) (show_of home rows) r
  drafts_seen zero d inside r = refl
  drafts_seen (suc n) d inside r =
      one_more n r d.0 (drafts_length n) (inside n (omega arith)) (drafts_seen n d.1 (λ k l. inside k (omega arith)) r)
    where
      one_more : (n r : ℕ) → hold_on (get_or hand n no_hold).at (hand_with drafts hand n) ≡ None → length (with_drafts drafts hand n rows) ≡ length rows → (get_or hand n no_hold).at < length rows
          → show_of home (with_drafts drafts hand n rows) r ≡ seen (hand_with drafts hand n) (show_of home rows) r
          → show_of home (with_drafts drafts hand (suc n) rows) r ≡ seen (hand_with drafts hand (suc n)) (show_of home rows) r
      one_more n r d long low ih = grind (arith, nat_tests, common_steps)

-- each of the first n holds is held
held_somewhere : {V : Type 0} (drafts : ℕ → V) (hand : List Hold) (n k : ℕ) → k < n → (h : rules.Hold V) × (hold_on (get_or hand k no_hold).at (hand_with drafts hand n) ≡ Some h)
held_somewhere drafts hand zero k l = absurd (omega arith)
held_somewhere {V} drafts hand (suc n) k l = go (eqb (get_or hand n no_hold).at (get_or hand k no_hold).at) refl (held_somewhere drafts hand n k)
  where
    below : (k ≡ n → ⊥) → k < n
    below ne = ⊎_elim (λ (s : k < n). s) (λ (g : n ≤ k). absurd (ne (omega arith))) (cases_lt k n)

    go : (b : Bool) → eqb (get_or hand n no_hold).at (get_or hand k no_hold).at ≡ b
        → (k < n → (h : rules.Hold V) × (hold_on (get_or hand k no_hold).at (hand_with drafts hand n) ≡ Some h))
        → (h : rules.Hold V) × (cond b (Some (hold_with (drafts n) (get_or hand n no_hold))) (hold_on (get_or hand k no_hold).at (hand_with drafts hand n)) ≡ Some h)
    go true e ih = (hold_with (drafts n) (get_or hand n no_hold), refl)
    go false e ih = ih (below (λ same. eqb-false _ _ e (ap (λ (j : ℕ). (get_or hand j no_hold).at) (sym same))))

-- a record of the show has a row
records_within : (show drafts r : ℕ) → r < records_of show drafts → r < show
records_within show drafts r h = grind (arith, nat_tests)

-- a commit is refused in the view as in the lock table
pub commit_refusal : {V : Type 0} (C : Type 0) (drafts : ℕ → ℕ → V) (show : ℕ → V) (t : LockTable) (s records named : ℕ)
    → first_refusal (refusals {C = C} named (Commit s) (table_with drafts show t records)) ≡ refused named (Commit s) t 0
commit_refusal C drafts show t s records named = ap first_refusal (commit_same C (Unit {0}) drafts (λ i k. tt) show (λ q. tt) t records named s)

-- an admitted commit has a station
pub commit_below : (t : LockTable) (s named : ℕ) → refused named (Commit s) t 0 ≡ None → s < 16
commit_below t s named none = leb-false 16 s (all_tests_fail (refusals {C = Unit {0}} named (Commit s) (table_of t 0)) none).0

-- the station that the lock table names may be named in the view
pub may_name : {V : Type 0} (drafts : ℕ → ℕ → V) (xs : List Station) (s named : ℕ) → (0 < bonds (bare xs) s → behind_bond (bare xs) s named ≡ true)
    → 0 < bonds (stations_with drafts xs) s → behind_bond (stations_with drafts xs) s named ≡ true
may_name drafts xs s named fence bound =
    behind_bond_same drafts (λ i k. tt {0}) xs s named ∙ fence (subst (λ (n : ℕ). 0 < n) (bonds_same drafts (λ i k. tt {0}) xs s) bound)

module _ {V C : Type 0} (apply : V → C → V) (home : V) (show plotted drafts rows : List V) (t u w : LockTable) (s i number named : ℕ)
    (orderly : Orderly (table_from home show drafts t)) (none : refused named (Commit s) t 0 ≡ None) (at_s : i ≡ s)
    (writes : plotted ≡ with_drafts (drafts_of home drafts i) (hand_of t i) (held_of t i) show)
    (frees : u.stations ≡ change freed i t.stations) (counts : u.commits ≡ cond (active_at t.stations i) (t.commits + 1) t.commits) (tells : number ≡ u.commits)
    (settles : RowsFor u.stations drafts → stations_with (drafts_of home rows) w.stations ≡ settle (show_of home plotted) (stations_with (drafts_of home drafts) u.stations))
    (long : length rows ≡ length drafts) (next : w.next ≡ t.next) (commits : w.commits ≡ u.commits) where
  -- the commit is not refused in the view
  commit_accepted : first_refusal (refusals {C = C} named (Commit s) (table_from home show drafts t)) ≡ None
  commit_accepted = commit_refusal C (drafts_of home drafts) (show_of home show) t s (records_of (length show) (length drafts)) named ∙ none

  -- the rows written, of the station named
  writes_own : plotted ≡ with_drafts (drafts_of home drafts s) (hand_of t s) (held_of t s) show
  writes_own = writes ∙ ap (λ (j : ℕ). with_drafts (drafts_of home drafts j) (hand_of t j) (held_of t j) show) at_s

  -- the show has what the station sees
  plotted_seen : show_of home plotted ≡ seen (stations_with (drafts_of home drafts) t.stations s).hand (show_of home show)
  plotted_seen =
      let hand = hand_of t s in let held = held_of t s in
      ap (show_of home) writes_own
      ∙ fun_ext (drafts_seen home (drafts_of home drafts s) hand show held (orderly.distinct s)
      (λ k l. let h = held_somewhere (drafts_of home drafts s) hand held k l in records_within (length show) (length drafts) (get_or hand k no_hold).at (orderly.held_inside s (get_or hand k no_hold).at h.0 h.1)))

  -- the attempt is counted
  committed_number : u.commits ≡ suc t.commits
  committed_number =
      let ok = commit_admitted C named (table_from home show drafts t) s commit_accepted in
      let acts : active_at t.stations i ≡ true = ap (active_at t.stations) at_s ∙ ap (λ (p : rules.Phase). not (rules.is_idle p)) ok.0 in
      counts ∙ ap (λ (b : Bool). cond b (t.commits + 1) t.commits) acts ∙ add-one t.commits

  -- the stations that it leaves are those of the rules
  committed_stations : stations_with (drafts_of home rows) w.stations ≡ (after apply (Commit s) (table_from home show drafts t)).stations
  committed_stations =
      let tests = all_tests_fail (refusals {C = C} named (Commit s) (table_from home show drafts t)) commit_accepted in
      let low : s < 16 = leb-false 16 s tests.0 in let full : length t.stations ≡ 16 = t.full in
      let freeing : u.stations ≡ change freed s t.stations = frees ∙ ap (λ (j : ℕ). change freed j t.stations) at_s in
      settles (λ j p q. orderly_served home show drafts t orderly j p (waits_before freed freed_waits_not t.stations s j p (omega arith) (q ∙ ap (λ (l : List Station). awaited_at l j) freeing)))
      ∙ ap (λ (f : ℕ → V). settle f (stations_with (drafts_of home drafts) u.stations)) plotted_seen
      ∙ ap (settle (seen (stations_with (drafts_of home drafts) t.stations s).hand (show_of home show))) (ap (stations_with (drafts_of home drafts)) freeing ∙ freed_view (drafts_of home drafts) t.stations s (omega arith))

  -- and so is the table
  committed_table : table_from home plotted rows w ≡ after apply (Commit s) (table_from home show drafts t)
  committed_table =
      table_of_all committed_stations next (commits ∙ committed_number) plotted_seen
      (ap (λ (n : ℕ). records_of n (length rows)) (ap length writes_own ∙ drafts_length home (drafts_of home drafts s) (hand_of t s) show (held_of t s)) ∙ ap (records_of (length show)) long)

  -- so the commit goes as the rules say
  pub committed_step : (Committed number, table_from home plotted rows w) ≡ step apply named (Commit s) (table_from home show drafts t)
  committed_step = accepted_naming apply (Commit s) (table_from home show drafts t) named _ _ commit_accepted (ap Committed (tells ∙ committed_number)) committed_table
