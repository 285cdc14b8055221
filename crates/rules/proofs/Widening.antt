-- Widening gives the least closed set with the first members.
use Rattle.std.proofs.Common.{◌≡◌, ℕ, ◌<◌, Bool, true, false, not, ◌&&◌, eqb, List, [], ◌∷◌, is_some, Some, None, Option, refl, inl, inr, arith}
use Rattle.std.proofs.lemmas.Bool.{eqb-true, ne_eqb, or_cases, or_right, and_parts, both_ways, true_from_ne_false}
use Rattle.std.proofs.lemmas.Bool.Decides.{nat_tests}
use Rattle.rules.specs.Searches.{any_below, first_below, count_below}
use Rattle.rules.specs.Tables.{Hold, Stations, hold_on, older}
use Rattle.rules.specs.Operations.{exclusive_in_common, joins, with_member, widen}
use Rattle.rules.specs.Widening.{holds, holds_exclusively, Follows, Closed, Within, WideningIsLeast}
use Rattle.rules.proofs.Searches.{eqb_refl, any_below_witness, any_below_from, first_below_passes, first_below_none, first_below_empty, count_one_fewer, count_zero, count_at_most, until_keeps, until_exhausts}

-- whoever has a hold on a record holds it
pub found_holds : {V : Type 0} (r : ℕ) (hs : List (Hold V)) → is_some (hold_on r hs) ≡ holds r hs
found_holds r [] = refl
found_holds r (h ∷ hs) = grind (arith, found_holds r hs)

-- a record that one hand holds exclusively and another holds is a record that they have in common
common_from : {V : Type 0} (r : ℕ) (hs other : List (Hold V)) → holds_exclusively r hs ≡ true → holds r other ≡ true
    → exclusive_in_common hs other ≡ true
common_from r [] other e f = cc
common_from r (h ∷ hs) other e f = grind (arith, nat_tests, found_holds, common_from r hs other)

-- of two hands with an exclusive record in common, the first holds some record exclusively that the second holds
common_parts : {V : Type 0} (hs other : List (Hold V)) → exclusive_in_common hs other ≡ true
    → (r : ℕ) × (holds_exclusively r hs ≡ true) × (holds r other ≡ true)
common_parts [] other e = cc
common_parts (h ∷ hs) other e = grind (arith, nat_tests, found_holds, eqb_refl h.record_number, common_parts hs other)

module _ {V : Type 0} (t : Stations V) where
  -- what makes station i join by member j
  abbrev by_member : (ℕ → Bool) → ℕ → ℕ → Bool
  by_member members i j = members j && (older t j i && exclusive_in_common (t j).hand (t i).hand)

  -- who joins by a member follows it
  by_member_follows : (members : ℕ → Bool) (i j : ℕ) → by_member members i j ≡ true → (members j ≡ true) × Follows t j i
  by_member_follows members i j e = grind (arith, nat_tests, common_parts)

  -- who follows a member joins by it
  follows_by_member : (members : ℕ → Bool) (i j : ℕ) → members j ≡ true → Follows t j i → by_member members i j ≡ true
  follows_by_member members i j m f = grind (arith, nat_tests, common_from)

  -- whoever joins follows a member
  joiner_follows : (members : ℕ → Bool) (i : ℕ) → joins t members i ≡ true
      → (j : ℕ) × (j < 16) × (members j ≡ true) × Follows t j i
  joiner_follows members i e =
      let s = any_below_witness 16 (by_member members i) (and_parts (not (members i)) (any_below 16 (by_member members i)) e).1 in
      let b = by_member_follows members i s.0 s.2 in (s.0, s.1, b.0, b.1)

  -- whoever follows a member and is none joins
  follower_joins : (members : ℕ → Bool) (j i : ℕ) → j < 16 → members j ≡ true → Follows t j i → members i ≡ false
      → joins t members i ≡ true
  follower_joins members j i l m f e =
      rw (e, any_below_from 16 (by_member members i) j l (follows_by_member members i j m f))

  -- the member that widening adds next
  picks : (ℕ → Bool) → Option ℕ
  picks members = first_below 16 (joins t members)

  module _ (first : ℕ → Bool) where
    -- one more member keeps the first ones
    keeps_first : (members : ℕ → Bool) (k : ℕ) → picks members ≡ Some k → Within first members
        → Within first (with_member k members)
    keeps_first members k e h i q = or_right (eqb i k) (members i) (h i q)

    -- the widened set has the first members
    pub widened_has_first : Within first (widen t first)
    unfolding widen picks
    widened_has_first = until_keeps picks with_member (λ m. Within first m) keeps_first 16 first (λ i q. q)

    -- nobody is left to join
    nobody_joins : first_below 16 (joins t (widen t first)) ≡ None
    unfolding widen picks
    nobody_joins = until_exhausts picks with_member (λ m. Within first m) keeps_first size falls none 16 first (λ i q. q)
        (count_at_most 16 (λ i. not (first i)))
      where
        size : (ℕ → Bool) → ℕ
        size members = count_below 16 (λ i. not (members i))

        falls : (members : ℕ → Bool) (k : ℕ) → picks members ≡ Some k → Within first members
            → size (with_member k members) < size members
        falls members k e h =
            let f = first_below_passes 16 (joins t members) k e in
            omega (
              arith,
              count_one_fewer 16 (λ i. not (members i)) (λ i. not (with_member k members i)) k f.0
                  (and_parts (not (members k)) (any_below 16 (by_member members k)) f.1).0 (rw eqb_refl) (λ j ne. rw (ne_eqb j k ne)),
            )

        none : (members : ℕ → Bool) → Within first members → size members ≡ 0 → picks members ≡ None
        none members h e = first_below_empty 16 (joins t members) (λ k l. rw (count_zero 16 (λ i. not (members i)) e k l))

    -- the widened set is closed
    pub widened_closed : Closed t (widen t first)
    widened_closed j i lj li mj f = true_from_ne_false (widen t first i)
        (λ e. both_ways (joins t (widen t first) i) (first_below_none 16 (joins t (widen t first)) nobody_joins i li)
        (follower_joins (widen t first) j i lj mj f e))

    -- the widened set is within every closed set that has the first members
    pub widened_least : (other : ℕ → Bool) → Within first other → Closed t other → Within (widen t first) other
    unfolding widen
    widened_least other has shut = until_keeps (λ m. first_below 16 (joins t m)) with_member (λ m. Within m other) keeps 16 first
        has
      where
        keeps : (members : ℕ → Bool) (k : ℕ) → first_below 16 (joins t members) ≡ Some k → Within members other
            → Within (with_member k members) other
        keeps members k e h i q = elim (or_cases (eqb i k) (members i) q) [
          | inl u ↦ (let f = first_below_passes 16 (joins t members) k e in
              let j = joiner_follows members k f.1 in
              rw (eqb-true i k u) (shut j.0 k j.1 f.0 (h j.0 j.2) j.3))
          | inr u ↦ h i u
        ]

-- widening gives the least closed set
pub widening_is_least : (V : Type 0) → WideningIsLeast V
widening_is_least V t first = record
    { has_first = widened_has_first t first; closed = widened_closed t first; least = widened_least t first }
