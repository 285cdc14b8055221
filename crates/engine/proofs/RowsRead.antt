-- What a read of a shelf says of its rows.
use Rattle.std.proofs.Common.{◌≡◌, ℕ, ◌+◌, ◌*◌, ◌<◌, List, length, get_or, set, Option, ap, ◌∙◌, arith}
use Rattle.std.proofs.lemmas.Bool.Decides.{nat_tests}
use Rattle.std.proofs.lemmas.Grind.{common_steps}
use Rattle.std.specs.List.{slice_get}
use Rattle.std.specs.Option.{unwrap_or}
use Rattle.std.proofs.lemmas.Option.{unwrap_or-slice_get}
use Rattle.engine.specs.View.{drafts_of}

module _ {X : Type 0} where
  -- what is read at a row, or the default past the end
  pub read_or : (xs : List X) (n : ℕ) (d e r : X) (o : Option X) → r ≡ unwrap_or o e → o ≡ slice_get xs n → e ≡ d → r ≡ get_or xs n d
  read_or xs n d e r o a b h = a ∙ ap (λ (x : X). unwrap_or o x) h ∙ ap (λ (p : Option X). unwrap_or p d) b ∙ unwrap_or-slice_get xs n d

  -- a place below sixteen has its row
  pub draft_row : (home : X) (rows : List X) (i k : ℕ) → k < 16 → get_or rows (16 * i + k) home ≡ drafts_of home rows i k
  draft_row home rows i k h = grind (arith, nat_tests)

  -- the draft that was written
  pub draft_written : (home : X) (rows : List X) (i k : ℕ) (x : X) → k < 16 → 16 * i + k < length rows → drafts_of home (set rows (16 * i + k) x) i k ≡ x
  draft_written home rows i k x h low = grind (arith, nat_tests, common_steps)

  -- every other draft stays
  pub draft_other : (home : X) (rows : List X) (i k : ℕ) (x : X) → k < 16 → (j n : ℕ) → (j ≡ i → n ≡ k → ⊥) → drafts_of home (set rows (16 * i + k) x) j n ≡ drafts_of home rows j n
  draft_other home rows i k x h j n ne = grind (arith, nat_tests, common_steps)
