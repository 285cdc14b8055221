-- A list copied over another element by element, and what the two loops that do so have done after n turns.
use Rattle.std.proofs.Common.{◌≡◌, ℕ, zero, suc, ◌+◌, ◌<◌, ◌≤◌, min, true, false, List, [], ◌∷◌, length, get_or, take, drop, set, is_ok, Some, None, Result, sym, refl, ap, ◌∙◌, subst, ⊎_elim, add-one, arith, drop_of_length-le, take_all, drop-cons, le-ltb, lt-ltb}
use Rattle.std.specs.List.{slice_get}
use Rattle.std.proofs.lemmas.List.{length-map, get_or-map}
use Rattle.std.proofs.lemmas.Option.{slice_get_past, slice_get-get_or}
use Rattle.std.proofs.lemmas.Bool.{cases_lt}
use Rattle.shelves.specs.Writing.{write_answer}
use Rattle.shelves.specs.declared.shelf.PastCount.{PastCount}
use Rattle.values.specs.declared.level.Level.{Level}
use Rattle.values.specs.Levels.{level, level_packed, level_unpacked}
use Rattle.image.specs.Images.{row_count, image_written}
use Rattle.image.proofs.RowsWritten.{rows_long}
use Rattle.bench_entry.specs.Rows.{levels_of, SoundLevels, laid_over, as_levels, as_numbers, image_after}

module _ {X : Type 0} where
  pub length_laid : (xs ys : List X) → length (laid_over xs ys) ≡ length xs
  length_laid xs [] = refl
  length_laid [] (y ∷ ys) = refl
  length_laid (x ∷ xs) (y ∷ ys) = ap suc (length_laid xs ys)

  -- one more element laid over
  laid_suc : (xs ys : List X) (n : ℕ) (d : X) → n < length ys → set (laid_over xs (take n ys)) n (get_or ys n d) ≡ laid_over xs (take (suc n) ys)
  laid_suc xs [] n d h = absurd (omega arith)
  laid_suc [] (y ∷ ys) zero d h = refl
  laid_suc (x ∷ xs) (y ∷ ys) zero d h = refl
  laid_suc [] (y ∷ ys) (suc n) d h = refl
  laid_suc (x ∷ xs) (y ∷ ys) (suc n) d h = ap (λ (t : List X). y ∷ t) (laid_suc xs ys n d (omega arith))

  pub laid_more : (xs ys : List X) (n : ℕ) (d v : X) → n < length ys → v ≡ get_or ys n d → set (laid_over xs (take n ys)) n v ≡ laid_over xs (take (n + 1) ys)
  laid_more xs ys n d v h e = ap (set (laid_over xs (take n ys)) n) e ∙ laid_suc xs ys n d h ∙ ap (λ (k : ℕ). laid_over xs (take k ys)) (sym (add-one n))

  -- what is laid past the end is not there
  pub laid_end : (xs ys : List X) (n : ℕ) → length xs ≤ n → laid_over xs (take n ys) ≡ laid_over xs ys
  laid_end xs [] n h = ap (laid_over xs) (take_all n [] (omega arith))
  laid_end [] (y ∷ ys) zero h = refl
  laid_end [] (y ∷ ys) (suc n) h = refl
  laid_end (x ∷ xs) (y ∷ ys) zero h = absurd (omega arith)
  laid_end (x ∷ xs) (y ∷ ys) (suc n) h = ap (λ (t : List X). y ∷ t) (laid_end xs ys n (omega arith))

-- which writes are accepted
module _ {X : Type 0} where
  pub accepted_below : (xs : List X) (n : ℕ) (r : Result (Unit {0}) PastCount) → r ≡ write_answer xs n → true ≡ is_ok r → n < length xs
  accepted_below xs n r e ok =
      ⊎_elim (λ (h : n < length xs). h)
      (λ (h : length xs ≤ n). let f = le-ltb n (length xs) h in let z : ◌≡◌ {A = ℕ} 0 1 = cc in absurd (omega arith))
      (cases_lt n (length xs))

  pub refused_past : (xs : List X) (n : ℕ) (r : Result (Unit {0}) PastCount) → r ≡ write_answer xs n → false ≡ is_ok r → length xs ≤ n
  refused_past xs n r e bad =
      ⊎_elim (λ (h : n < length xs). let f = lt-ltb n (length xs) h in let z : ◌≡◌ {A = ℕ} 0 1 = cc in absurd (omega arith))
      (λ (h : length xs ≤ n). h)
      (cases_lt n (length xs))

-- the first n numbers are written to the image, which is image' now: how many were accepted, and what it holds
pub record Wrote (image image' ns : List ℕ) (n accepted : ℕ) : Type 0 where
  pub count : accepted ≡ min n (row_count (length image))
  pub rows : levels_of image' ≡ laid_over (levels_of image) (take n (as_levels ns))
  pub sound : SoundLevels image → SoundLevels image'
  pub bytes : image_after image' n (drop n ns) ≡ image_after image 0 ns

pub wrote_none : (image ns : List ℕ) → Wrote image image ns 0 0
wrote_none image ns = record { count = omega arith; rows = refl; sound = λ s. s; bytes = refl }

module _ (image image' ns : List ℕ) (n accepted : ℕ) (w : Wrote image image' ns n accepted) where
  -- the image has the rows that it had
  pub rows_stay : length (levels_of image') ≡ row_count (length image)
  rows_stay = ap length w.rows ∙ length_laid (levels_of image) (take n (as_levels ns)) ∙ sym (rows_long (level 0) level_unpacked image)

  pub wrote_more : (image'' : List ℕ) (accepted' : ℕ) (v : Level) → n < length ns → v ≡ level (get_or ns n 0)
      → levels_of image'' ≡ set (levels_of image') n v → (SoundLevels image' → SoundLevels image'') → image'' ≡ image_written image' n (level_packed v)
      → accepted' ≡ min (n + 1) (row_count (length image)) → Wrote image image'' ns (n + 1) accepted'
  wrote_more image'' accepted' v h e rows sound bytes count =
      record {
        count = count;
        rows = rows ∙ ap (λ (t : List Level). set t n v) w.rows
            ∙ laid_more (levels_of image) (as_levels ns) n (level 0) v (let l = length-map ns level in omega arith) (e ∙ sym (get_or-map level ns n 0 (level 0) h));
        sound = λ s. sound (w.sound s);
        bytes = ap (λ (t : List ℕ). image_after t (n + 1) (drop (n + 1) ns)) (bytes ∙ ap (λ (u : Level). image_written image' n (level_packed u)) e)
            ∙ sym (ap (image_after image' n) (drop-cons ns n 0 h ∙ ap (λ (k : ℕ). get_or ns n 0 ∷ drop k ns) (sym (add-one n))))
            ∙ w.bytes;
      }

  -- after the last number
  pub wrote_all : (exit : List ℕ) → length ns ≡ n → exit ≡ image'
      → (levels_of exit ≡ laid_over (levels_of image) (as_levels ns)) × (SoundLevels image → SoundLevels exit) × (exit ≡ image_after image 0 ns)
  wrote_all exit e same = (
    ap levels_of same ∙ w.rows ∙ ap (laid_over (levels_of image)) (take_all n (as_levels ns) (let l = length-map ns level in omega arith)),
    λ s. subst SoundLevels (sym same) (w.sound s),
    same ∙ sym (ap (image_after image' n) (drop_of_length-le ns (omega arith))) ∙ w.bytes,
  )

-- the first n rows are read over the numbers, which are nums now: how many there were, and what the numbers are
pub record Got (rows : List Level) (ns nums : List ℕ) (n got : ℕ) : Type 0 where
  pub count : got ≡ min n (length rows)
  pub numbers : nums ≡ laid_over ns (take n (as_numbers rows))

pub got_none : (rows : List Level) (ns : List ℕ) → Got rows ns ns 0 0
got_none rows ns = record { count = omega arith; numbers = refl }

-- what is read at a place stands there
some_at : {X : Type 0} (xs : List X) (n : ℕ) (x : X) → Some x ≡ slice_get xs n → (n < length xs) × (x ≡ get_or xs n x)
some_at xs n x e =
    ⊎_elim
    (λ (h : n < length xs). let f = slice_get-get_or xs n x h in (h, cc))
    (λ (h : length xs ≤ n). let f = slice_get_past xs n h in let z : ◌≡◌ {A = ℕ} 0 1 = cc in absurd (omega arith))
    (cases_lt n (length xs))

none_at : {X : Type 0} (xs : List X) (n : ℕ) → None ≡ slice_get xs n → length xs ≤ n
none_at [] n e = omega arith
none_at (x ∷ xs) zero e = let z : ◌≡◌ {A = ℕ} 0 1 = cc in absurd (omega arith)
none_at (x ∷ xs) (suc n) e = let h = none_at xs n e in omega arith

module _ (rows : List Level) (ns nums : List ℕ) (n got : ℕ) (g : Got rows ns nums n got) where
  pub got_row : (v : Level) (nums' : List ℕ) (got' : ℕ) → Some v ≡ slice_get rows n → nums' ≡ set nums n v.value → got' ≡ got + 1 → Got rows ns nums' (n + 1) got'
  got_row v nums' got' e put more =
      let at = some_at rows n v e in let count = g.count in let l = length-map rows (λ (u : Level). u.value) in
      record {
        count = omega arith;
        numbers = put ∙ ap (λ (t : List ℕ). set t n v.value) g.numbers
            ∙ laid_more ns (as_numbers rows) n 0 v.value (omega arith) (ap (λ (u : Level). u.value) at.1 ∙ sym (get_or-map (λ u. u.value) rows n v 0 at.0));
      }

  pub past_rows : (nums' : List ℕ) (got' : ℕ) → None ≡ slice_get rows n → nums' ≡ nums → got' ≡ got → Got rows ns nums' (n + 1) got'
  past_rows nums' got' e left same =
      let past = none_at rows n e in let count = g.count in let l = length-map rows (λ (u : Level). u.value) in
      record {
        count = omega arith;
        numbers = left ∙ g.numbers ∙ ap (laid_over ns) (take_all n (as_numbers rows) (omega arith) ∙ sym (take_all (n + 1) (as_numbers rows) (omega arith)));
      }

  pub got_all : length ns ≡ n → nums ≡ laid_over ns (as_numbers rows)
  got_all e = g.numbers ∙ laid_end ns (as_numbers rows) n (omega arith)
