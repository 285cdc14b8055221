-- Begin and again, in the view.
use Rattle.std.proofs.Common.{◌≡◌, ℕ, ◌+◌, ◌<◌, ◌≤◌, Bool, true, cond, length, None, refl, ap, ◌∙◌, add-one, arith, ltb-false, lt-ltb, le-leb, leb-false}
use Rattle.std.proofs.lemmas.Bool.{and_from, not-false}
use Rattle.rules.specs.declared.Call.TheVariants.{Begin, Again}
use Rattle.rules.specs.Calls.{refusals, after, last_stamp}
use Rattle.rules.proofs.Admission.{all_tests_fail}
use Rattle.locks.specs.declared.table.LockTable.{LockTable}
use Rattle.locks.specs.View.{stations_with}
use Rattle.locks.specs.Admission.{table_with, table_of, refused}
use Rattle.locks.specs.Changes.{begins, change, started, again}
use Rattle.locks.proofs.ChangedViews.{started_view, again_view}
use Rattle.engine.proofs.Steps.{table_of_all}

module _ {V C : Type 0} (apply : V → C → V) (drafts : ℕ → ℕ → V) (show : ℕ → V) (t u : LockTable) (records s : ℕ) where
  -- what begin leaves of the lock table is what the rules leave
  pub begun : (n : ℕ) → n ≡ s → refused 0 (Begin s) t 0 ≡ None → length t.stations ≡ 16
      → u.stations ≡ cond (begins n t.next) (change (started t.next) n t.stations) t.stations
      → u.next ≡ cond (begins n t.next) (t.next + 1) t.next → u.commits ≡ t.commits
      → table_with drafts show u records ≡ after apply (Begin s) (table_with drafts show t records)
  begun n e none long stations next commits =
      let tests = all_tests_fail (refusals {C = Unit {0}} 0 (Begin s) (table_of t 0)) none in
      let low : s < 16 = leb-false 16 s tests.0 in
      let left : t.next ≤ last_stamp = ltb-false last_stamp t.next tests.1.1.0 in
      let yes : begins n t.next ≡ true = ap (λ (k : ℕ). begins k t.next) e ∙ and_from _ _ (lt-ltb s 16 low) (le-leb t.next last_stamp left) in
      table_of_all
      (ap (stations_with drafts) (stations ∙ ap (λ (b : Bool). cond b (change (started t.next) n t.stations) t.stations) yes ∙ ap (λ (k : ℕ). change (started t.next) k t.stations) e) ∙ started_view drafts t.stations t.next s (omega arith))
      (next ∙ ap (λ (b : Bool). cond b (t.next + 1) t.next) yes ∙ add-one t.next)
      commits refl refl

  -- what again leaves of the lock table is what the rules leave
  pub begun_again : (n : ℕ) → n ≡ s → refused 0 (Again s) t 0 ≡ None → length t.stations ≡ 16
      → u.stations ≡ change again n t.stations → u.next ≡ t.next → u.commits ≡ t.commits
      → table_with drafts show u records ≡ after apply (Again s) (table_with drafts show t records)
  begun_again n e none long stations next commits =
      let tests = all_tests_fail (refusals {C = Unit {0}} 0 (Again s) (table_of t 0)) none in
      let low : s < 16 = leb-false 16 s tests.0 in
      table_of_all
      (ap (stations_with drafts) (stations ∙ ap (λ (k : ℕ). change again k t.stations) e) ∙ again_view drafts t.stations s (omega arith) (not-false _ tests.1.0))
      next commits refl refl
