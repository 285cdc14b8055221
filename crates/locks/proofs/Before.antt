-- What stands before a hold, by the place of its draft.
use Rattle.std.proofs.Common.{◌≡◌, ℕ, zero, suc, ◌+◌, Bool, true, false, cond, ltb, List, length, Some, None, Option, sym, refl, ap, ◌∙◌, ◌<◌, ◌≤◌, eqb, [], ◌∷◌, ◌++◌, get_or, IfSome, subst, ⊎_elim, add-zero, zero-add, append-nil, arith}
use Rattle.std.proofs.lemmas.Bool.{cases_lt, lt-ltb, le-ltb, cond-true, cond-false}
use Rattle.std.proofs.lemmas.List.Elements.{filter_map-append}
use Rattle.std.proofs.lemmas.List.Sums.{fold-append}
use Rattle.std.specs.List.{filter_map, cons_option, fold, reduce, range_with_len}
use Rattle.std.specs.Option.{option_map}
use Rattle.rules.specs.declared.Mode.{Mode}
use Rattle.rules.specs.declared.Mode.TheVariants.{Shared, Exclusive}
use Rattle.rules.specs.Tables.{older, hold_on, draft_in}
use Rattle.rules.specs.Operations.{draft_for, younger_of, youngest, older_draft, before}
use Rattle.locks.specs.declared.granting.Draft.{Draft}
use Rattle.locks.specs.declared.station.Hold.{Hold}
use Rattle.locks.specs.declared.station.Station.{Station}
use Rattle.locks.specs.Hand.{no_hold}
use Rattle.locks.specs.View.{hand_at, stations_with, placed, stamp_at, hold_with, hand_with, no_station}
use Rattle.locks.specs.Asked.{younger, stamped_draft, Below}
use Rattle.locks.proofs.Hands.{draft_by_place}

-- the draft of an older station is that of its place
pub older_draft_by_place : {V : Type 0} (drafts : ℕ → ℕ → V) (xs : List Station) (i r j : ℕ)
    → older_draft (stations_with drafts xs) i r j ≡ option_map (drafts j) (older_draft (stations_with (λ j k. k) xs) i r j)
older_draft_by_place {V} drafts xs i r j = go (older (stations_with drafts xs) j i)
  where
    go : (b : Bool) → cond b (draft_in (hold_on r (stations_with drafts xs j).hand)) None ≡ option_map (drafts j) (cond b (draft_in (hold_on r (stations_with (λ j k. k) xs j).hand)) None)
    go true = draft_by_place (drafts j) r (hand_at xs j) (length (hand_at xs j))
    go false = refl

-- the value behind a place, or the one that is plotted
abbrev pub value_at : {V : Type 0} → (ℕ → ℕ → V) → V → Option (ℕ × ℕ) → V
value_at drafts v None = v
value_at drafts v (Some p) = drafts p.0 p.1

module _ {V : Type 0} (drafts : ℕ → ℕ → V) (xs : List Station) (i r : ℕ) (v : V) where
  -- what is found, with the value behind each place
  found_at : ℕ × Option (ℕ × ℕ) → ℕ × V
  found_at p = (p.0, value_at drafts v p.1)

  -- the younger of two, with the value behind each place
  younger_by_place : (o : Option ℕ) (j s : ℕ) (f : ℕ × Option (ℕ × ℕ))
      → younger_of (option_map (drafts j) o) s (found_at f) ≡ found_at (younger_of (option_map (λ k. Some (j, k)) o) s f)
  unfolding found_at
  younger_by_place None j s f = refl
  younger_by_place (Some k) j s f = go (ltb f.0 s)
    where
      go : (b : Bool) → cond b (s, drafts j k) (found_at f) ≡ found_at (cond b (s, Some (j, k)) f)
      go true = refl
      go false = refl

  -- the youngest of the first n, with the value behind its place
  youngest_by_place : (n : ℕ) → youngest (λ j. (stations_with drafts xs j).stamp) (older_draft (stations_with drafts xs) i r) v n
      ≡ found_at (youngest (λ j. (placed xs j).stamp) (older_draft (placed xs) i r) None n)
  unfolding found_at
  youngest_by_place zero = refl
  youngest_by_place (suc n) =
      ap (λ (o : Option V). younger_of o (stations_with drafts xs n).stamp (youngest (λ j. (stations_with drafts xs j).stamp) (older_draft (stations_with drafts xs) i r) v n)) (older_draft_by_place drafts xs i r n)
      ∙ ap (younger_of (option_map (drafts n) (older_draft (stations_with (λ j k. k) xs) i r n)) (stations_with drafts xs n).stamp) (youngest_by_place n)
      ∙ younger_by_place (older_draft (stations_with (λ j k. k) xs) i r n) n (stations_with drafts xs n).stamp (youngest (λ j. (placed xs j).stamp) (older_draft (placed xs) i r) None n)
      ∙ ap (λ (o : Option (Option (ℕ × ℕ))). found_at (younger_of o (placed xs n).stamp (youngest (λ j. (placed xs j).stamp) (older_draft (placed xs) i r) None n))) (sym (older_draft_by_place (λ j k. Some (j, k)) xs i r n))

-- what stands before station i at record r is the draft at the place found, or the plotted value
pub before_by_place : {V : Type 0} (drafts : ℕ → ℕ → V) (xs : List Station) (show : ℕ → V) (i r : ℕ)
    → before (stations_with drafts xs) show i r ≡ value_at drafts (show r) (before (placed xs) (λ _. None) i r)
unfolding before found_at
before_by_place drafts xs show i r = ap (λ (p : ℕ × _). p.1) (youngest_by_place drafts xs i r (show r) 16)

-- a range with one number more
range_more : (n a : ℕ) → range_with_len a (suc n) ≡ range_with_len a n ++ (a + n) ∷ []
range_more zero a = ap (λ k. k ∷ []) (sym (add-zero a))
range_more (suc n) a = ap (λ ks. a ∷ ks) (range_more n (a + 1) ∙ ap (λ k. range_with_len (a + 1) n ++ k ∷ []) (let e : a + 1 + n ≡ a + suc n = omega arith in e))

-- of two, either of which may be missing, what f picks
abbrev picked : {A : Type 0} → (A → A → A) → Option A → Option A → Option A
picked f None o = o
picked f (Some x) None = Some x
picked f (Some x) (Some y) = Some (f x y)

-- of one it picks that
picked_one : {A : Type 0} (f : A → A → A) (o : Option A) → picked f o None ≡ o
picked_one f None = refl
picked_one f (Some x) = refl

-- what f picks of a list with one more
reduce_more : {A : Type 0} (f : A → A → A) (xs : List A) (o : Option A) → reduce f (xs ++ cons_option o []) ≡ picked f (reduce f xs) o
reduce_more f [] None = refl
reduce_more f [] (Some y) = refl
reduce_more f (x ∷ xs) None = ap (λ ys. Some (fold f x ys)) (append-nil xs)
reduce_more f (x ∷ xs) (Some y) = ap (λ z. Some z) (fold-append f x xs (y ∷ []))

-- a draft found, as the rules have it: stamp 0 where there is none
abbrev stamped : Option Draft → ℕ × Option (ℕ × ℕ)
stamped None = (0, None)
stamped (Some d) = (d.stamp, Some d.place)

-- the draft at place k of station n, under stamp s
abbrev draft : ℕ → ℕ → ℕ → Draft
draft s n k = record { stamp = s; place = (n, k) }

-- one more draft, as the rules have it
stamped_more : (a : Option Draft) (o : Option ℕ) (s n : ℕ)
    → stamped (picked younger a (cond (ltb 0 s) (option_map (λ k. draft s n k) o) None)) ≡ younger_of (option_map (λ k. Some (n, k)) o) s (stamped a)
stamped_more a None s n = go (ltb 0 s)
  where
    go : (b : Bool) → stamped (picked younger a (cond b None None)) ≡ stamped a
    go true = ap stamped (picked_one younger a)
    go false = ap stamped (picked_one younger a)
stamped_more a (Some k) s n = ⊎_elim
    (λ (h : 0 < s). ap (λ b. stamped (picked younger a (cond b (Some (draft s n k)) None))) (lt-ltb 0 s h) ∙ some a h)
    (λ (h : s ≤ 0). ap (λ b. stamped (picked younger a (cond b (Some (draft s n k)) None))) (le-ltb 0 s h) ∙ ap stamped (picked_one younger a)
    ∙ sym (cond-false (ltb (stamped a).0 s) (s, Some (n, k)) (stamped a) (le-ltb (stamped a).0 s (omega arith))))
    (cases_lt 0 s)
  where
    some : (a : Option Draft) → 0 < s → stamped (picked younger a (Some (draft s n k))) ≡ cond (ltb (stamped a).0 s) (s, Some (n, k)) (stamped a)
    some None h = sym (cond-true (ltb 0 s) (s, Some (n, k)) (0, None) (lt-ltb 0 s h))
    some (Some d) h = go (ltb d.stamp s)
      where
        go : (b : Bool) → stamped (Some (cond b (draft s n k) d)) ≡ cond b (s, Some (n, k)) (stamped (Some d))
        go true = refl
        go false = refl

module _ (xs : List Station) (i r : ℕ) where
  -- the youngest of the drafts of the first n stations, as the rules have it
  youngest_picked : (n : ℕ) → stamped (reduce younger (filter_map (stamped_draft xs i r) (range_with_len 0 n)))
      ≡ youngest (λ j. (placed xs j).stamp) (older_draft (placed xs) i r) None n
  youngest_picked zero = refl
  youngest_picked (suc n) =
      let h = stamped_draft xs i r in
      let drafts = filter_map h (range_with_len 0 n) in
      ap (λ ks. stamped (reduce younger (filter_map h ks))) (range_more n 0)
      ∙ ap (λ ds. stamped (reduce younger ds)) (filter_map-append h (range_with_len 0 n) ((0 + n) ∷ []))
      ∙ ap stamped (reduce_more younger drafts (h (0 + n)))
      ∙ ap (λ k. stamped (picked younger (reduce younger drafts) (h k))) (zero-add n)
      ∙ stamped_more (reduce younger drafts) (older_draft (stations_with (λ j k. k) xs) i r n) (stamp_at xs n) n
      ∙ ap (λ o. younger_of o (stamp_at xs n) (stamped (reduce younger drafts))) (sym (older_draft_by_place {V = Option (ℕ × ℕ)} (λ j k. Some (j, k)) xs i r n))
      ∙ ap (younger_of (older_draft (placed xs) i r n) (stamp_at xs n)) (youngest_picked n)

  -- the place of the youngest of all drafts is what stands before
  pub before_picked : option_map (λ (d : Draft). d.place) (reduce younger (filter_map (stamped_draft xs i r) (range_with_len 0 16))) ≡ before (placed xs) (λ _. None) i r
  unfolding before
  before_picked = by (reduce younger (filter_map (stamped_draft xs i r) (range_with_len 0 16))) ∙ ap (λ (p : ℕ × Option (ℕ × ℕ)). p.1) (youngest_picked 16)
    where
      by : (o : Option Draft) → option_map (λ (d : Draft). d.place) o ≡ (stamped o).1
      by None = refl
      by (Some d) = refl

-- the draft of a hand's hold, where each draft is its own place, is one of the first n
draft_within : (r : ℕ) (hand : List Hold) (n : ℕ) → IfSome (draft_in (hold_on r (hand_with (λ k. k) hand n))) (λ k. k < n)
draft_within r hand zero = tt
draft_within r hand (suc n) = go (eqb (get_or hand n no_hold).at r) (draft_within r hand n)
  where
    more : (o : Option ℕ) → IfSome o (λ k. k < n) → IfSome o (λ k. k < suc n)
    more None h = tt
    more (Some k) h = omega arith

    last : (m : Mode) → IfSome (draft_for m n) (λ k. k < suc n)
    last Shared = tt
    last Exclusive = omega arith

    go : (b : Bool) → IfSome (draft_in (hold_on r (hand_with (λ k. k) hand n))) (λ k. k < n)
        → IfSome (draft_in (cond b (Some (hold_with n (get_or hand n no_hold))) (hold_on r (hand_with (λ k. k) hand n)))) (λ k. k < suc n)
    go true h = last (get_or hand n no_hold).mode
    go false h = more (draft_in (hold_on r (hand_with (λ k. k) hand n))) h

-- what stands before is a hold at one of sixteen places of one of sixteen stations
module _ (xs : List Station) (i r : ℕ) (full : (j : ℕ) → j < 16 → length (get_or xs j no_station).hand.items ≤ 16) where
  older_within : (j : ℕ) → j < 16 → IfSome (older_draft (stations_with (λ j k. k) xs) i r j) (λ k. k < 16)
  older_within j h = go (older (stations_with {V = ℕ} (λ j k. k) xs) j i) (draft_in (hold_on r (stations_with (λ j k. k) xs j).hand)) (draft_within r (get_or xs j no_station).hand.items (length (get_or xs j no_station).hand.items))
    where
      more : (o : Option ℕ) → IfSome o (λ k. k < length (get_or xs j no_station).hand.items) → IfSome o (λ k. k < 16)
      more None l = tt
      more (Some k) l = let m = full j h in omega (arith, m)

      go : (b : Bool) (o : Option ℕ) → IfSome o (λ k. k < length (get_or xs j no_station).hand.items) → IfSome (cond b o None) (λ k. k < 16)
      go true o l = more o l
      go false o l = tt

  youngest_within : (n : ℕ) → n ≤ 16 → IfSome (youngest (λ j. (placed xs j).stamp) (older_draft (placed xs) i r) None n).1 Below
  youngest_within zero l = tt
  youngest_within (suc n) l =
      let found = youngest (λ j. (placed xs j).stamp) (older_draft (placed xs) i r) None n in
      subst (λ (o : Option (Option (ℕ × ℕ))). IfSome (younger_of o (stamp_at xs n) found).1 Below) (sym (older_draft_by_place {V = Option (ℕ × ℕ)} (λ j k. Some (j, k)) xs i r n))
      (go (older_draft (stations_with (λ j k. k) xs) i r n) found (older_within n l) (youngest_within n (omega arith)))
    where
      go : (o : Option ℕ) (found : ℕ × Option (ℕ × ℕ)) → IfSome o (λ k. k < 16) → IfSome found.1 Below
          → IfSome (younger_of (option_map (λ k. Some (n, k)) o) (stamp_at xs n) found).1 Below
      go None found h m = m
      go (Some k) found h m = by (ltb found.0 (stamp_at xs n))
        where
          by : (b : Bool) → IfSome (cond b (stamp_at xs n, Some (n, k)) found).1 Below
          by true = (l, h)
          by false = m

  pub before_within : IfSome (before (placed xs) (λ _. None) i r) Below
  unfolding before
  before_within = youngest_within 16 (omega arith)
