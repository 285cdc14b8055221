-- Look and change, in the view: the hold by its place, its draft, and the draft changed.
use Rattle.std.proofs.Common.{◌≡◌, ℕ, ◌+◌, ◌*◌, ◌<◌, true, List, length, get_or, set, Some, None, Option, sym, ap, ◌∙◌, subst, arith, length-set, leb-false}
use Rattle.std.proofs.lemmas.Bool.Decides.{nat_tests}
use Rattle.std.proofs.lemmas.Bool.{not-false}
use Rattle.std.proofs.lemmas.Option.{slice_get-get_or}
use Rattle.rules.specs.declared.Refusal.{Refusal}
use Rattle.rules.specs.declared.Mode.TheVariants.{Shared}
use Rattle.rules.specs.declared.Call.TheVariants.{Look, Change}
use Rattle.rules.specs.declared.Answer.TheVariants.{Value}
use Rattle.rules.specs.Tables.{Stations, conflict, hold_on, draft_in}
use Rattle.rules.specs.Operations.{before, or_else, seen}
use Rattle.rules.specs.Calls.{refusals, first_refusal, step, after}
use Rattle.rules.proofs.Admission.{all_tests_fail}
use Rattle.locks.specs.declared.station.Hold.{Hold}
use Rattle.locks.specs.declared.table.LockTable.{LockTable}
use Rattle.locks.specs.Hand.{no_hold}
use Rattle.locks.specs.View.{place_on, stations_with}
use Rattle.locks.specs.Admission.{table_with, table_of, refused}
use Rattle.locks.proofs.Drafts.{look_same, change_same}
use Rattle.locks.proofs.Hands.{draft_at, draft_at_place, shared_at, shared_at_place, draft_exclusive}
use Rattle.locks.proofs.ChangedViews.{redrafted_view}
use Rattle.engine.specs.View.{records_of, drafts_of, show_of, draft_of_hold, table_from, hand_of, held_of, own_hold}
use Rattle.engine.proofs.Steps.{accepted_step}
use Rattle.engine.proofs.RowsRead.{draft_written, draft_other}

module _ {V : Type 0} (C : Type 0) (drafts : ℕ → ℕ → V) (show : ℕ → V) (t : LockTable) (s r n m : ℕ) (o : Option Refusal) where
  -- a look is refused in the view as in the lock table
  pub look_refusal : n ≡ m → o ≡ refused 0 (Look s r) t n → first_refusal (refusals {C = C} 0 (Look s r) (table_with drafts show t m)) ≡ o
  look_refusal e h = ap first_refusal (look_same C (Unit {0}) drafts (λ i k. tt) show (λ q. tt) t m 0 s r) ∙ sym (h ∙ ap (λ (k : ℕ). refused 0 (Look s r) t k) e)

  -- a change too
  pub change_refusal : (c : C) → n ≡ m → o ≡ refused 0 (Change s r tt) t n → first_refusal (refusals 0 (Change s r c) (table_with drafts show t m)) ≡ o
  change_refusal c e h = ap first_refusal (change_same C (Unit {0}) drafts (λ i k. tt) show (λ q. tt) t m 0 s r c tt) ∙ sym (h ∙ ap (λ (k : ℕ). refused 0 (Change s r tt) t k) e)

-- the draft at the place of a hold is the draft of the hold on its record
draft_there : {V : Type 0} (drafts : ℕ → ℕ → V) (t : LockTable) (i r k : ℕ) → Some k ≡ place_on r (hand_of t i) (held_of t i) → k < held_of t i
    → draft_of_hold (own_hold t i k) (drafts i k) ≡ draft_in (hold_on r (stations_with drafts t.stations i).hand)
draft_there drafts t i r k place low =
    ap (λ (o : Option Hold). draft_of_hold o (drafts i k)) (slice_get-get_or (hand_of t i) k no_hold low)
    ∙ sym (draft_at_place (drafts i) r (hand_of t i) (held_of t i) ∙ ap (draft_at (drafts i) (hand_of t i)) (sym place))

-- what is seen at the place of a hold is what the rules let its station see
pub looked : {V : Type 0} (drafts : ℕ → ℕ → V) (show : ℕ → V) (t : LockTable) (s r i k : ℕ) (v : V) → i ≡ s
    → Some k ≡ place_on r (hand_of t s) (held_of t s) → k < held_of t s
    → v ≡ or_else (draft_of_hold (own_hold t i k) (drafts i k)) (before (stations_with drafts t.stations) show i r)
    → v ≡ seen (stations_with drafts t.stations s).hand (before (stations_with drafts t.stations) show s) r
looked drafts show t s r i k v e place low h =
    h ∙ ap (λ (n : ℕ). or_else (draft_of_hold (own_hold t n k) (drafts n k)) (before (stations_with drafts t.stations) show n r)) e
    ∙ ap (λ o. or_else o (before (stations_with drafts t.stations) show s r)) (draft_there drafts t s r k place low)

-- where there is a record, the drafts have 256 rows
pub rows_fit : (show drafts r : ℕ) → r < records_of show drafts → drafts ≡ 256
rows_fit show drafts r h = grind (arith, nat_tests)

-- a hold that may be changed is exclusive, and its record is one of the show
changeable : (t : LockTable) (s r k n : ℕ) → refused 0 (Change s r tt) t n ≡ None → Some k ≡ place_on r (hand_of t s) (held_of t s)
    → (s < 16) × (r < n) × (true ≡ conflict Shared (get_or (hand_of t s) k no_hold).mode)
changeable t s r k n none place =
    let tests = all_tests_fail (refusals {C = Unit {0}} 0 (Change s r tt) (table_of t n)) none in
    let hand = hand_of t s in (
      leb-false 16 s tests.0,
      leb-false n r tests.1.1.1.1.0,
      sym (not-false _ (ap (shared_at hand) place ∙ sym (shared_at_place (λ k. tt {0}) r hand (held_of t s)) ∙ tests.1.1.1.1.1.1.0)),
    )

module _ {V C : Type 0} (apply : V → C → V) (home : V) (show drafts rows : List V) (t : LockTable) (c : C) (s r i k n : ℕ) (new : V) (at_s : i ≡ s)
    (place : Some k ≡ place_on r (hand_of t s) (held_of t s)) (small : k < 16)
    (none : refused 0 (Change s r tt) t n ≡ None) (records : n ≡ records_of (length show) (length drafts))
    (made : new ≡ apply (drafts_of home drafts i k) c) (written : rows ≡ set drafts (16 * i + k) new) where
  private_row : 16 * s + k < length drafts
  private_row = let h = changeable t s r k n none place in let d = rows_fit (length show) (length drafts) r (subst (λ (m : ℕ). r < m) records h.1) in let low = h.0 in omega arith

  rows_are : rows ≡ set drafts (16 * s + k) new
  rows_are = written ∙ ap (λ (j : ℕ). set drafts (16 * j + k) new) at_s

  new_draft : drafts_of home rows s k ≡ new
  new_draft = ap (λ l. drafts_of home l s k) rows_are ∙ draft_written home drafts s k new small private_row

  -- the stations with the draft written are those of the rules
  redrafted_stations : stations_with (drafts_of home rows) t.stations ≡ (after apply (Change s r c) (table_from home show drafts t)).stations
  redrafted_stations =
      redrafted_view (λ v. apply v c) (drafts_of home drafts) (drafts_of home rows) t.stations s r k (sym place)
      (new_draft ∙ made ∙ ap (λ (j : ℕ). apply (drafts_of home drafts j k) c) at_s)
      (λ j m ne. ap (λ l. drafts_of home l j m) rows_are ∙ draft_other home drafts s k new small j m ne)

  -- and so is the table
  changed_table : table_from home show rows t ≡ after apply (Change s r c) (table_from home show drafts t)
  changed_table =
      let l : length rows ≡ length drafts = ap length rows_are ∙ length-set drafts (16 * s + k) new in
      λ j. record { stations = redrafted_stations j; next_stamp = t.next; commits = t.commits; show = show_of home show; records = records_of (length show) (l j) }

  -- the new draft is what the rules answer
  changed_answer : new ≡ seen ((after apply (Change s r c) (table_from home show drafts t)).stations s).hand (show_of home show) r
  changed_answer =
      let h = changeable t s r k n none place in
      sym (ap (λ (u : Stations V). seen (u s).hand (show_of home show) r) (sym redrafted_stations)
      ∙ ap (λ o. or_else o (show_of home show r)) (draft_at_place (drafts_of home rows s) r (hand_of t s) (held_of t s) ∙ ap (draft_at (drafts_of home rows s) (hand_of t s)) (sym place)
      ∙ sym (draft_exclusive (get_or (hand_of t s) k no_hold).mode (drafts_of home rows s k) h.2))
      ∙ new_draft)

  -- so the change goes as the rules say
  pub changed_step : (Value new, table_from home show rows t) ≡ step apply 0 (Change s r c) (table_from home show drafts t)
  changed_step =
      accepted_step apply (Change s r c) (table_from home show drafts t) _ _
      (change_refusal C (drafts_of home drafts) (show_of home show) t s r n (records_of (length show) (length drafts)) None c records (sym none)) (ap Value changed_answer) changed_table
