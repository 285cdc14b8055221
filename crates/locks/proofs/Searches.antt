-- What std's searches over the first n numbers find, in the words of the rules.
use Rattle.std.proofs.Common.{◌≡◌, ℕ, zero, suc, ◌+◌, ◌<◌, ◌≤◌, Bool, true, false, cond, ◌||◌, List, [], ◌∷◌, Some, None, Option, MatchOption, sym, refl, ap, ◌∙◌, ⊎_elim, zero-le, arith}
use mathlib.Core.Path.{fun_ext}
use denote.Param.Members.{Mut, Called}
use denote.Ref.{Bor}
use Rattle.std.proofs.iter.Yields.{nat_range_steps}
use Rattle.std.proofs.lemmas.Bool.{cases_lt, cond-true}
use Rattle.std.proofs.lemmas.Fn.{fold_same, FoldsTo-push}
use Rattle.std.proofs.lemmas.Iterator.{YieldsList, YieldsList-from_range, first_from_Range}
use Rattle.std.proofs.lemmas.Iterator.Consumers.{reduce_from_yields_List}
use Rattle.std.proofs.lemmas.Iterator.Search.{any_from_yields_List}
use Rattle.std.specs.declared.ops.Range.{Range}
use Rattle.std.specs.Fn.{CalledAt}
use Rattle.std.specs.Iterator.{Drains, ChecksAny, FindsItem, ReducesItems}
use Rattle.std.specs.List.{FoldsTo, list_any, reduce, range_with_len}
use Rattle.rules.specs.Searches.{any_below, first_below}
use Rattle.rules.proofs.Searches.{first_below_empty}
use Rattle.locks.proofs.Places.{any_first}

-- the numbers of a range, front to back
any_range : (n a : ℕ) (p : ℕ → Bool) → list_any p (range_with_len a n) ≡ any_below n (λ k. p (a + k))
any_range zero a p = refl
any_range (suc n) a p =
    ap (λ b. p a || b) (any_range n (a + 1) p ∙ ap (any_below n) (fun_ext (λ k. ap p (let e : a + 1 + k ≡ a + suc k = omega arith in e))))
    ∙ ap (λ k. p k || any_below n (λ k. p (a + suc k))) (let e : a ≡ a + 0 = omega arith in e)
    ∙ sym (any_first n (λ k. p (a + k)))

-- `any` over the numbers below n
pub any_found : {F : Type 0} {g : Mut F (ℕ × Unit {0}) Bool} (n : ℕ) (p : ℕ → Bool) (u : Range ℕ) {f : F} {r : Bool}
    → ChecksAny nat_range_steps g (record { start = 0; end = n }) f r u
    → ((x : ℕ) (b : Bool) (q : F) → Called g f (x, tt) b q → (q ≡ f) × (b ≡ p x)) → r ≡ any_below n p
any_found n p u {f} {r} ran gives =
    any_from_yields_List p u f r ran (YieldsList-from_range 0 n n refl (omega arith)) gives
    ∙ any_range n 0 p ∙ ap (any_below n) (fun_ext (λ k. ap p (let e : 0 + k ≡ k = omega arith in e)))

-- the first that passes
first_below_is : (n : ℕ) (p : ℕ → Bool) (k : ℕ) → k < n → p k ≡ true → ((j : ℕ) → j < k → p j ≡ false) → first_below n p ≡ Some k
first_below_is zero p k l h before = absurd (omega arith)
first_below_is (suc n) p k l h before = ⊎_elim (λ m. ap pick (first_below_is n p k m h before)) last (cases_lt k n)
  where
    pick : Option ℕ → Option ℕ
    pick o = elim o [ Some k ↦ Some k | None ↦ cond (p n) (Some n) None ]

    last : n ≤ k → pick (first_below n p) ≡ Some k
    last m =
        let same : n ≡ k = omega arith in
        ap pick (first_below_empty n p (λ j i. before j (omega arith)))
        ∙ cond-true (p n) (Some n) None (ap p same ∙ h) ∙ ap (λ j. Some j) same

-- `find` over the numbers below n
pub first_found : {F : Type 0} {g : Mut F (Bor ℕ × Unit {0}) Bool} (n : ℕ) (p : ℕ → Bool) (u : Range ℕ) {f : F} {r : Option ℕ}
    → FindsItem nat_range_steps g (record { start = 0; end = n }) f r u
    → ((x : ℕ) (b : Bool) (q : F) → CalledAt g f x b q → (q ≡ f) × (b ≡ p x)) → r ≡ first_below n p
first_found {F} {g} n p u {f} {r} ran gives =
    by r (first_from_Range (record { start = 0; end = n }) u f r (λ x. p x ≡ true) (λ x. p x ≡ false) ran
    (λ x q k. sym (gives x true q k).1) (λ x q k. ((gives x false q k).0, sym (gives x false q k).1)))
  where
    by : (o : Option ℕ) → MatchOption o ((k : ℕ) → 0 ≤ k → k < n → p k ≡ false) (λ i. (0 ≤ i) × (i < n) × (p i ≡ true) × ((k : ℕ) → 0 ≤ k → k < i → p k ≡ false)) → o ≡ first_below n p
    by None none = sym (first_below_empty n p (λ k. none k zero-le))
    by (Some i) m = sym (first_below_is n p i m.1 m.2 (λ j. m.3 j zero-le))

-- `reduce` over what a chain yields, by a closure that computes h
pub reduced : {S A F : Type 0} {steps : S → Option A → S → Type 0} {g : Mut F (A × (A × Unit {0})) A} (h : A → A → A) (s : S) {f : F} (r : Option A) {all : List A}
    → ReducesItems steps g s f r → YieldsList steps (λ x. x) s all
    → ((a x y : A) (q : F) → Called g f (a, (x, tt)) y q → (q ≡ f) × (y ≡ h a x)) → r ≡ reduce h all
reduced {S} {A} {F} {steps} {g} h s {f} r {all} ran yields gives = reduce_from_yields_List h s r (by r ran) yields
  where
    by : (o : Option A) → ReducesItems steps g s f o → MatchOption o (Drains steps s []) (λ y. (x : A) × (xs : List A) × Drains steps s (x ∷ xs) × FoldsTo (λ p z c. c ≡ h p z) x xs y)
    by None d = d
    by (Some y) (x, xs, q, d, folds) = (
      x,
      xs,
      d,
      fold_same g (λ ys c. FoldsTo (λ p z c. c ≡ h p z) x ys c) f
          (λ ys a z b t j k. (FoldsTo-push (λ p z c. c ≡ h p z) x ys a z b j (gives a z b t k).1, (gives a z b t k).0)) xs x y q refl folds,
    )
