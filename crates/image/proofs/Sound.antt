-- An image passes the check just when it is sound; a row that is written keeps an image so.
use Rattle.std.proofs.Common.{◌≡◌, ℕ, ◌*◌, ◌/◌, ◌%◌, ◌<◌, ◌≤◌, Bool, true, false, cond, List, length, get_or, drop, is_ok, Ok, Err, Result, sym, refl, ap, ◌∙◌, subst, ⊎_elim, arith, length-drop, take_all, leb-true}
use Rattle.std.proofs.lemmas.Slice.Eq.{bytes_eq-Decides}
use Rattle.std.proofs.lemmas.Bool.{eqb-true, eq-eqb, le-leb, and_parts, and_from, cases_eq}
use Rattle.values.specs.Packing.{number_at}
use Rattle.image.specs.declared.fault.Fault.{Fault}
use Rattle.image.specs.Blocks.{part, checks, closed, row_of, with_row}
use Rattle.image.specs.Images.{row_count, block_of, row_written}
use Rattle.image.specs.Faults.{Verdict, row_check, clear, block_check, whole_blocks, image_check}
use Rattle.image.specs.Sound.{BlockOf, ImageOf, Sound}
use Rattle.image.proofs.Parts.{length_part}
use Rattle.image.proofs.Blocks.{closed_check, closed_mark, closed_other, closed_row, length_with_row, row_written_is, row_written_other, header_stays}
use Rattle.image.proofs.RowsWritten.{length_row_written, written_block, other_block, block_long}
use Rattle.image.proofs.FirstFault.{each_passes, each_passed}

-- a test that is passed, and what comes after it
cond_passes : (b : Bool) (v : Verdict) (f : Fault) → b ≡ true → v ≡ Ok tt → cond b v (Err f) ≡ Ok tt
cond_passes b v f e h = ap (λ (t : Bool). cond t v (Err f)) e ∙ h

cond_passed : (b : Bool) (v : Verdict) (f : Fault) → cond b v (Err f) ≡ Ok tt → (b ≡ true) × (v ≡ Ok tt)
cond_passed true v f e = (refl, e)
cond_passed false v f e = let z : ◌≡◌ {A = ℕ} 0 1 = cc in absurd (omega arith)

row_passes : {V : Type 0} (q k : ℕ) (r : Result V ℕ) → is_ok r ≡ true → row_check q k r ≡ Ok tt
row_passes q k (Ok v) e = refl
row_passes q k (Err i) e = let z : ◌≡◌ {A = ℕ} 0 1 = cc in absurd (omega arith)

row_passed : {V : Type 0} (q k : ℕ) (r : Result V ℕ) → row_check q k r ≡ Ok tt → is_ok r ≡ true
row_passed q k (Ok v) e = refl
row_passed q k (Err i) e = let z : ◌≡◌ {A = ℕ} 0 1 = cc in absurd (omega arith)

-- the mark and the four bytes after it, by one test each
clear_from : (b : List ℕ) → get_or b 3 0 ≡ 0 → ((i : ℕ) → 4 ≤ i → i < 8 → get_or b i 0 ≡ 0) → clear b ≡ true
clear_from b m z =
    and_from _ _ (and_from _ _ (and_from _ _ (and_from _ _ (eq-eqb _ _ m) (eq-eqb _ _ (z 4 (omega arith) (omega arith)))) (eq-eqb _ _ (z 5 (omega arith) (omega arith)))) (eq-eqb _ _ (z 6 (omega arith) (omega arith)))) (eq-eqb _ _ (z 7 (omega arith) (omega arith)))

clear_parts : (b : List ℕ) → clear b ≡ true → (get_or b 3 0 ≡ 0) × ((i : ℕ) → 4 ≤ i → i < 8 → get_or b i 0 ≡ 0)
clear_parts b e =
    let p7 = and_parts _ _ e in let p6 = and_parts _ _ p7.0 in let p5 = and_parts _ _ p6.0 in let p4 = and_parts _ _ p5.0 in
    (eqb-true _ _ p4.0, one (eqb-true _ _ p4.1) (eqb-true _ _ p5.1) (eqb-true _ _ p6.1) (eqb-true _ _ p7.1))
  where
    one : get_or b 4 0 ≡ 0 → get_or b 5 0 ≡ 0 → get_or b 6 0 ≡ 0 → get_or b 7 0 ≡ 0 → (i : ℕ) → 4 ≤ i → i < 8 → get_or b i 0 ≡ 0
    one e4 e5 e6 e7 i h g =
        ⊎_elim (λ (s : i ≡ 4). ap (λ (j : ℕ). get_or b j 0) s ∙ e4)
        (λ (n4 : i ≡ 4 → ⊥). ⊎_elim (λ (s : i ≡ 5). ap (λ (j : ℕ). get_or b j 0) s ∙ e5)
        (λ (n5 : i ≡ 5 → ⊥). ⊎_elim (λ (s : i ≡ 6). ap (λ (j : ℕ). get_or b j 0) s ∙ e6)
        (λ (n6 : i ≡ 6 → ⊥). let s : i ≡ 7 = omega (arith, n4, n5, n6) in ap (λ (j : ℕ). get_or b j 0) s ∙ e7)
        (cases_eq i 6)) (cases_eq i 5)) (cases_eq i 4)

-- the last eight bytes of a block
last_eight : (b : List ℕ) → length b ≡ 512 → part b 504 8 ≡ drop 504 b
last_eight b long = let l = length-drop 504 b in take_all 8 (drop 504 b) (omega arith)

-- an image of whole blocks, each of them as asked
pub blocks_image : (kind : ℕ) (Row : List ℕ → Type 0) (image : List ℕ) → whole_blocks (length image) ≡ true → ((q : ℕ) → q < length image / 512 → BlockOf kind Row q (block_of image q)) → ImageOf kind Row image
blocks_image kind Row image w each =
    let w2 = and_parts _ _ w in let w1 = and_parts _ _ w2.0 in
    let m : length image % 512 ≡ 0 = eqb-true _ _ w1.0 in
    record { whole = omega arith; some_blocks = leb-true _ _ w1.1; not_too_many = leb-true _ _ w2.1; blocks = each }

module _ {V : Type 0} (kind : ℕ) (unpacked : List ℕ → Result V ℕ) where
  -- a block passes just when it is sound
  pub sound_block_passes : (q : ℕ) (b : List ℕ) → length b ≡ 512 → BlockOf kind (λ bytes. is_ok (unpacked bytes) ≡ true) q b → block_check kind unpacked q b ≡ Ok tt
  sound_block_passes q b long s =
      cond_passes _ _ _ (eq-eqb _ _ s.number)
      (cond_passes _ _ _ (eq-eqb _ _ s.of_kind)
      (cond_passes _ _ _ (clear_from b s.no_mark s.zeros)
      (cond_passes _ _ _ ((bytes_eq-Decides (checks b) (drop 504 b)).1 (sym s.check ∙ last_eight b long))
      (each_passes _ 31 0 (λ k h g. row_passes q k (unpacked (row_of b k)) (s.rows k (omega arith)))))))

  pub block_passed : (q : ℕ) (b : List ℕ) → length b ≡ 512 → block_check kind unpacked q b ≡ Ok tt → BlockOf kind (λ bytes. is_ok (unpacked bytes) ≡ true) q b
  block_passed q b long e =
      let a1 = cond_passed _ _ _ e in let a2 = cond_passed _ _ _ a1.1 in let a3 = cond_passed _ _ _ a2.1 in let a4 = cond_passed _ _ _ a3.1 in
      let z = clear_parts b a3.0 in
      record {
        number = eqb-true _ _ a1.0;
        of_kind = eqb-true _ _ a2.0;
        no_mark = z.0;
        zeros = z.1;
        check = last_eight b long ∙ sym ((bytes_eq-Decides (checks b) (drop 504 b)).0 a4.0);
        rows = λ k h. row_passed q k (unpacked (row_of b k)) (each_passed _ 31 0 a4.1 k (omega arith) (omega arith));
      }

  -- an image passes just when it is sound
  pub sound_passes : (image : List ℕ) → Sound kind unpacked image → image_check kind unpacked image ≡ Ok tt
  sound_passes image s =
      let w = s.whole in
      cond_passes _ _ _ (and_from _ _ (and_from _ _ (eq-eqb _ _ (omega arith)) (le-leb _ _ s.some_blocks)) (le-leb _ _ s.not_too_many))
      (each_passes _ (length image / 512) 0 (λ q h g. sound_block_passes q (block_of image q) (length_part image (512 * q) 512 (omega arith)) (s.blocks q (omega arith))))

  pub passed_sound : (image : List ℕ) → image_check kind unpacked image ≡ Ok tt → Sound kind unpacked image
  passed_sound image e =
      let a = cond_passed _ _ _ e in
      let w = (and_parts _ _ (and_parts _ _ a.0).0).0 in
      let m : length image % 512 ≡ 0 = eqb-true _ _ w in
      blocks_image kind (λ bytes. is_ok (unpacked bytes) ≡ true) image a.0
      (λ q h. block_passed q (block_of image q) (length_part image (512 * q) 512 (omega arith)) (each_passed _ (length image / 512) 0 a.1 q (omega arith) (omega arith)))

-- what is closed and what is written through the guard
module _ (kind : ℕ) (Row : List ℕ → Type 0) where
  -- a block that is closed over a good header and good rows
  pub closed_over : (q : ℕ) (b : List ℕ) → length b ≡ 512 → number_at b 0 ≡ q → get_or b 2 0 ≡ kind → ((i : ℕ) → 4 ≤ i → i < 8 → get_or b i 0 ≡ 0) → ((k : ℕ) → k < 31 → Row (row_of b k)) → BlockOf kind Row q (closed b)
  closed_over q b long number of_kind zeros rows =
      let stays : (i : ℕ) → i < 8 → (i ≡ 3 → ⊥) → get_or (closed b) i 0 ≡ get_or b i 0 = λ i h ne. closed_other b long i (omega arith) ne in
      record {
        number = let e0 = stays 0 (omega arith) (λ e. omega arith) in let e1 = stays 1 (omega arith) (λ e. omega arith) in omega arith;
        of_kind = stays 2 (omega arith) (λ e. omega arith) ∙ of_kind;
        no_mark = closed_mark b long;
        zeros = λ i h g. stays i g (λ e. omega arith) ∙ zeros i h g;
        check = closed_check b long;
        rows = λ k h. subst Row (sym (closed_row b long k h)) (rows k h);
      }

  -- a closed block with a good row written
  pub closed_block_of : (q : ℕ) (b : List ℕ) (k : ℕ) (bytes : List ℕ) → length b ≡ 512 → k < 31 → length bytes ≡ 16 → Row bytes → BlockOf kind Row q b → BlockOf kind Row q (closed (with_row b k bytes))
  closed_block_of q b k bytes long low wide good s =
      let stays = header_stays b k bytes long low wide in
      closed_over q (with_row b k bytes) (length_with_row b k bytes long low wide)
      (let e0 = stays 0 (omega arith) in let e1 = stays 1 (omega arith) in let n = s.number in omega arith)
      (stays 2 (omega arith) ∙ s.of_kind)
      (λ i h g. stays i g ∙ s.zeros i h g)
      (λ m h. ⊎_elim
      (λ (e : m ≡ k). subst Row (sym (ap (row_of (with_row b k bytes)) e ∙ row_written_is b k bytes long low wide)) good)
      (λ (ne : m ≡ k → ⊥). subst Row (sym (row_written_other b k bytes long low wide m h ne)) (s.rows m h))
      (cases_eq m k))

  -- an image with a good row written
  pub written_image_of : (image : List ℕ) (n : ℕ) (bytes : List ℕ) → n < row_count (length image) → length bytes ≡ 16 → Row bytes → ImageOf kind Row image → ImageOf kind Row (row_written image n bytes)
  written_image_of image n bytes inside wide good s =
      let l = length_row_written image n bytes inside wide in
      let w = s.whole in
      record {
        whole = l ∙ w ∙ ap (λ (m : ℕ). 512 * (m / 512)) (sym l);
        some_blocks = let e = ap (λ (m : ℕ). m / 512) l in let g = s.some_blocks in omega arith;
        not_too_many = let e = ap (λ (m : ℕ). m / 512) l in let g = s.not_too_many in omega arith;
        blocks = λ q h. block q (let e = ap (λ (m : ℕ). m / 512) l in omega arith);
      }
    where
      block : (q : ℕ) → q < length image / 512 → BlockOf kind Row q (block_of (row_written image n bytes) q)
      block q h =
          ⊎_elim
          (λ (e : q ≡ n / 31).
          let P : List ℕ → Type 0 = BlockOf kind Row q in
          subst P (sym (ap (block_of (row_written image n bytes)) e ∙ written_block image n bytes inside wide))
          (closed_block_of q (block_of image (n / 31)) (n % 31) bytes (block_long image n bytes inside wide) (omega arith) wide good (subst P (ap (block_of image) e) (s.blocks q h))))
          (λ (ne : q ≡ n / 31 → ⊥).
          let P : List ℕ → Type 0 = BlockOf kind Row q in
          subst P (sym (other_block image n bytes inside wide q (omega arith) ne)) (s.blocks q h))
          (cases_eq q (n / 31))

-- rows that are good in one way are good in another that follows from it
pub rows_weaker : (kind : ℕ) (P Q : List ℕ → Type 0) → ((bytes : List ℕ) → P bytes → Q bytes) → (image : List ℕ) → ImageOf kind P image → ImageOf kind Q image
rows_weaker kind P Q f image s =
    record {
      whole = s.whole;
      some_blocks = s.some_blocks;
      not_too_many = s.not_too_many;
      blocks = λ q h. let b = s.blocks q h in record { number = b.number; of_kind = b.of_kind; no_mark = b.no_mark; zeros = b.zeros; check = b.check; rows = λ k g. f _ (b.rows k g) };
    }
