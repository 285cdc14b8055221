-- A new image: its header, row after row, and block after block.
use Rattle.std.proofs.Common.{◌≡◌, ℕ, ◌+◌, ◌*◌, ◌<◌, ◌≤◌, List, [], ◌∷◌, ◌++◌, length, get_or, take, drop, sym, ap, ◌∙◌, subst, ⊎_elim, arith, length-append, length-drop, length-take}
use Rattle.std.proofs.lemmas.Bool.{cases_eq}
use Rattle.image.specs.Blocks.{part, closed, row_of, with_row}
use Rattle.image.specs.Images.{block_of, with_block}
use Rattle.image.specs.Sound.{BlockOf}
use Rattle.image.proofs.Parts.{get_d_part, between_is}
use Rattle.image.proofs.Blocks.{length_with_row, row_written_is, row_written_other, header_stays}
use Rattle.image.proofs.RowsWritten.{block_written_is, block_written_other}
use Rattle.image.proofs.Sound.{closed_over}

-- a block whose first k rows are filled, and whose header is as it was
pub record RowsFilled (start row b : List ℕ) (k : ℕ) : Type 0 where
  pub long : length b ≡ 512
  pub header : (i : ℕ) → i < 8 → get_or b i 0 ≡ get_or start i 0
  pub rows : (j : ℕ) → j < k → row_of b j ≡ row

-- one row more is filled
pub row_filled : (start row b b' : List ℕ) (k : ℕ) → k < 31 → length row ≡ 16 → RowsFilled start row b k → b' ≡ with_row b k row → RowsFilled start row b' (k + 1)
row_filled start row b b' k low wide so e =
    let long = so.long in
    record {
      long = ap length e ∙ length_with_row b k row long low wide;
      header = λ i h. ap (λ (t : List ℕ). get_or t i 0) e ∙ header_stays b k row long low wide i h ∙ so.header i h;
      rows = λ j h. ap (λ (t : List ℕ). row_of t j) e ∙
          ⊎_elim
          (λ (s : j ≡ k). ap (row_of (with_row b k row)) s ∙ row_written_is b k row long low wide)
          (λ (ne : j ≡ k → ⊥). row_written_other b k row long low wide j (omega arith) ne ∙ so.rows j (omega (arith, ne)))
          (cases_eq j k);
    }

-- a block with the header of block q, closed over rows that are all the same
pub new_block_of : (kind q : ℕ) (row h b : List ℕ) → length b ≡ 512 → part h 0 8 ≡ q ∷ 0 ∷ kind ∷ 0 ∷ 0 ∷ 0 ∷ 0 ∷ 0 ∷ []
    → ((i : ℕ) → i < 8 → get_or b i 0 ≡ get_or h i 0) → ((k : ℕ) → k < 31 → row_of b k ≡ row) → BlockOf kind (λ bytes. bytes ≡ row) q (closed b)
new_block_of kind q row h b long e header rows =
    closed_over kind (λ bytes. bytes ≡ row) q b long
    (let e0 = at 0 (omega arith) in let e1 = at 1 (omega arith) in omega arith)
    (at 2 (omega arith))
    (λ i f g. at i g ∙ zero_from_four i f)
    rows
  where
    at : (i : ℕ) → i < 8 → get_or b i 0 ≡ get_or (q ∷ 0 ∷ kind ∷ 0 ∷ 0 ∷ 0 ∷ 0 ∷ 0 ∷ []) i 0
    at i g = header i g ∙ (let z : 0 + i ≡ i = omega arith in ap (λ (j : ℕ). get_or h j 0) (sym z)) ∙ sym (get_d_part h 0 8 i g) ∙ ap (λ (t : List ℕ). get_or t i 0) e

    zero_from_four : (i : ℕ) → 4 ≤ i → get_or (q ∷ 0 ∷ kind ∷ 0 ∷ 0 ∷ 0 ∷ 0 ∷ 0 ∷ []) i 0 ≡ 0
    zero_from_four i f = grind arith

-- one block more is new, written between what is before it and what is after it
pub block_made : (kind : ℕ) (row image front back : List ℕ) (q : ℕ) (b : List ℕ) → 512 * q + 512 ≤ length image → front ≡ take (512 * q) image → back ≡ drop (512 * q) image
    → length (front ++ (b ++ drop 512 back)) ≡ length image → ((p : ℕ) → p < q → BlockOf kind (λ bytes. bytes ≡ row) p (block_of image p)) → BlockOf kind (λ bytes. bytes ≡ row) q b
    → (p : ℕ) → p < q + 1 → BlockOf kind (λ bytes. bytes ≡ row) p (block_of (front ++ (b ++ drop 512 back)) p)
block_made kind row image front back q b room before after same so new p h =
    let f : length front ≡ 512 * q = ap length before ∙ length-take (512 * q) image ∙ omega arith in
    let r : length back + 512 * q ≡ length image = let e = ap length after ∙ length-drop (512 * q) image in omega arith in
    let d = length-drop 512 back in
    let a = length-append front (b ++ drop 512 back) in let i = length-append b (drop 512 back) in
    let wide : length b ≡ 512 = omega arith in
    let P : List ℕ → Type 0 = BlockOf kind (λ bytes. bytes ≡ row) p in
    let put : front ++ (b ++ drop 512 back) ≡ with_block image q b = between_is image front back b (512 * q) 512 before after wide in
    subst P (sym (ap (λ (t : List ℕ). block_of t p) put))
    (⊎_elim
    (λ (s : p ≡ q). subst P (sym (ap (block_of (with_block image q b)) s ∙ block_written_is image q b room wide)) (subst (λ (r : ℕ). BlockOf kind (λ bytes. bytes ≡ row) r b) (sym s) new))
    (λ (ne : p ≡ q → ⊥). subst P (sym (block_written_other image q b room wide p (omega arith) ne)) (so p (omega (arith, ne))))
    (cases_eq p q))
