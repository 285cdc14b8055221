-- What the questions answer does not depend on the drafts: two views of the same stations, with other drafts, agree.
use Rattle.std.proofs.Common.{◌≡◌, ℕ, zero, suc, Bool, cond, not, ◌&&◌, ◌||◌, ltb, leb, List, [], ◌∷◌, length, get_or, is_some, Option, sym, refl, ap, ◌∙◌}
use mathlib.Core.Path.{fun_ext}
use Rattle.rules.specs.declared.Mode.{Mode}
use Rattle.rules.specs.declared.Refusal.{Refusal}
use Rattle.rules.specs.declared.Refusal.TheVariants as refusal
use Rattle.rules.specs.declared.Call.TheVariants.{Take, Look, Change, Retire, Commit}
use Rattle.rules.specs.Searches.{any_below, first_below, until}
use Rattle.rules.specs.Tables.{Phase, Table, older, conflicts, owned_conflicts, hold_on, waits_for, idle, running, wounded, waiting, is_idle, is_waiting, is_wounded}
use Rattle.rules.specs.Operations.{binds, bonds, bonds_in, behind_bond, behind_bond_in, exclusive_in_common, joins, with_member, widen, blocks, ready, grantable, must_yield}
use Rattle.rules.specs.Calls.{refusals, owns, only_shared, standing_of, state_of, stamp_of, awaited}
use Rattle.rules.proofs.Searches.{any_below_same}
use Rattle.locks.specs.declared.station.Hold.{Hold}
use Rattle.locks.specs.declared.station.Station.{Station}
use Rattle.locks.specs.declared.table.LockTable.{LockTable}
use Rattle.locks.specs.Hand.{no_hold}
use Rattle.locks.specs.View.{hold_with, hand_with, stations_with, hand_at}
use Rattle.locks.specs.Admission.{table_with}
use Rattle.locks.proofs.Turns.{and_both, or_both}
use Rattle.locks.proofs.Hands.{mode_kept, exclusive_kept, hand_length, holds_at_place, conflicts_at_place, owned_conflicts_at_place, owns_at_place, shared_at_place}

-- two hands with the same entries and other drafts
module _ {V W : Type 0} (these : ℕ → V) (those : ℕ → W) (r : ℕ) (hand : List Hold) (n : ℕ) where
  -- the same records are held
  pub holds_same : is_some (hold_on r (hand_with these hand n)) ≡ is_some (hold_on r (hand_with those hand n))
  holds_same = holds_at_place these r hand n ∙ sym (holds_at_place those r hand n)

  -- the same holds conflict
  pub conflicts_same : (m : Mode) → conflicts m (hold_on r (hand_with these hand n)) ≡ conflicts m (hold_on r (hand_with those hand n))
  conflicts_same m = sym (conflicts_at_place these r hand n m) ∙ conflicts_at_place those r hand n m

  -- the same owned holds conflict
  pub owned_conflicts_same : (m : Mode) → owned_conflicts m (hold_on r (hand_with these hand n)) ≡ owned_conflicts m (hold_on r (hand_with those hand n))
  owned_conflicts_same m = sym (owned_conflicts_at_place these r hand n m) ∙ owned_conflicts_at_place those r hand n m

  -- the same records are owned
  pub owns_same : owns (hold_on r (hand_with these hand n)) ≡ owns (hold_on r (hand_with those hand n))
  owns_same = owns_at_place these r hand n ∙ sym (owns_at_place those r hand n)

  -- the same holds are shared
  pub shared_same : only_shared (hold_on r (hand_with these hand n)) ≡ only_shared (hold_on r (hand_with those hand n))
  shared_same = shared_at_place these r hand n ∙ sym (shared_at_place those r hand n)

-- the same records are exclusive in common
pub exclusive_in_common_same : {V W : Type 0} (a c : ℕ → V) (b d : ℕ → W) (hand other : List Hold) (n m : ℕ)
    → exclusive_in_common (hand_with a hand n) (hand_with c other m) ≡ exclusive_in_common (hand_with b hand n) (hand_with d other m)
exclusive_in_common_same a c b d hand other zero m = refl
exclusive_in_common_same a c b d hand other (suc n) m =
    or_both (and_both (exclusive_kept (get_or hand n no_hold).mode (a n) ∙ sym (exclusive_kept (get_or hand n no_hold).mode (b n))) (holds_same c d (get_or hand n no_hold).at other m))
    (exclusive_in_common_same a c b d hand other n m)

-- two views of the same stations
module _ {V W : Type 0} (these : ℕ → ℕ → V) (those : ℕ → ℕ → W) (xs : List Station) where
  -- the same stations have a hold on record r that conflicts
  station_conflicts_same : (m : Mode) (r j : ℕ) → conflicts m (hold_on r (stations_with these xs j).hand) ≡ conflicts m (hold_on r (stations_with those xs j).hand)
  station_conflicts_same m r j = conflicts_same (these j) (those j) r (hand_at xs j) (length (hand_at xs j)) m

  -- the same stations bind a hold
  pub binds_same : (i : ℕ) (v : V) (w : W) (h : Hold) (j : ℕ) → binds (stations_with these xs) i (hold_with v h) j ≡ binds (stations_with those xs) i (hold_with w h) j
  binds_same i v w h j =
      ap (λ m. older (stations_with these xs) j i && conflicts m (hold_on h.at (stations_with these xs j).hand)) (mode_kept h.mode v ∙ sym (mode_kept h.mode w))
      ∙ ap (λ b. older (stations_with these xs) j i && b) (station_conflicts_same _ h.at j)

  -- the same holds of a hand have bonds
  bonds_in_same : (i : ℕ) (a : ℕ → V) (b : ℕ → W) (hand : List Hold) (n : ℕ)
      → bonds_in (stations_with these xs) i (hand_with a hand n) ≡ bonds_in (stations_with those xs) i (hand_with b hand n)
  bonds_in_same i a b hand zero = refl
  bonds_in_same i a b hand (suc n) =
      ap (λ t. cond t (suc (bonds_in (stations_with these xs) i (hand_with a hand n))) (bonds_in (stations_with these xs) i (hand_with a hand n)))
      (any_below_same 16 _ _ (binds_same i (a n) (b n) (get_or hand n no_hold)))
      ∙ ap (λ k. cond (any_below 16 (binds (stations_with those xs) i (hold_with (b n) (get_or hand n no_hold)))) (suc k) k) (bonds_in_same i a b hand n)

  -- the bonds are the same
  pub bonds_same : (i : ℕ) → bonds (stations_with these xs) i ≡ bonds (stations_with those xs) i
  unfolding bonds
  bonds_same i = bonds_in_same i (these i) (those i) (hand_at xs i) (length (hand_at xs i))

  -- the same stations are behind a bond that comes from a hand
  behind_bond_in_same : (i j : ℕ) (a : ℕ → V) (b : ℕ → W) (hand : List Hold) (n : ℕ)
      → behind_bond_in (stations_with these xs) i (hand_with a hand n) j ≡ behind_bond_in (stations_with those xs) i (hand_with b hand n) j
  behind_bond_in_same i j a b hand zero = refl
  behind_bond_in_same i j a b hand (suc n) = or_both (binds_same i (a n) (b n) (get_or hand n no_hold) j) (behind_bond_in_same i j a b hand n)

  -- the same stations are behind a bond
  pub behind_bond_same : (i j : ℕ) → behind_bond (stations_with these xs) i j ≡ behind_bond (stations_with those xs) i j
  behind_bond_same i j = behind_bond_in_same i j (these i) (those i) (hand_at xs i) (length (hand_at xs i))

  -- the same stations have an exclusive record in common
  pub station_in_common_same : (j i : ℕ) → exclusive_in_common (stations_with these xs j).hand (stations_with these xs i).hand ≡ exclusive_in_common (stations_with those xs j).hand (stations_with those xs i).hand
  station_in_common_same j i =
      exclusive_in_common_same (these j) (these i) (those j) (those i) (hand_at xs j) (hand_at xs i) (length (hand_at xs j)) (length (hand_at xs i))

  -- the same stations join
  pub joins_same : (members : ℕ → Bool) (i : ℕ) → joins (stations_with these xs) members i ≡ joins (stations_with those xs) members i
  joins_same members i = ap (λ b. not (members i) && b) (any_below_same 16 _ _ (λ j. ap (λ b. members j && (older (stations_with these xs) j i && b)) (station_in_common_same j i)))

  -- the widened sets are the same
  pub widen_same : (members : ℕ → Bool) → widen (stations_with these xs) members ≡ widen (stations_with those xs) members
  unfolding widen
  widen_same members = ap (λ (pick : (ℕ → Bool) → Option ℕ). until 16 pick with_member members) (fun_ext (λ ms. ap (first_below 16) (fun_ext (joins_same ms))))

  -- the same stations must yield
  pub must_yield_same : (i r : ℕ) (m : Mode) → must_yield (stations_with these xs) i r m ≡ must_yield (stations_with those xs) i r m
  must_yield_same i r m = fun_ext (λ j. ap (λ b. older (stations_with these xs) i j && b) (station_conflicts_same m r j))

  -- the same stations block
  pub blocks_same : (i r : ℕ) (m : Mode) (j : ℕ) → blocks (stations_with these xs) i r m j ≡ blocks (stations_with those xs) i r m j
  blocks_same i r m j =
      ap (λ b. b || (waits_for (stations_with these xs j).phase r && older (stations_with these xs) j i))
      (owned_conflicts_same (these j) (those j) r (hand_at xs j) (length (hand_at xs j)) m)

  -- the same stations are ready
  pub ready_same : (i : ℕ) (p : Phase) → ready (stations_with these xs) i p ≡ ready (stations_with those xs) i p
  ready_same i idle = refl
  ready_same i running = refl
  ready_same i wounded = refl
  ready_same i (waiting r m) = ap not (any_below_same 16 _ _ (blocks_same i r m))

  -- the same stations are grantable
  pub grantable_same : grantable (stations_with these xs) ≡ grantable (stations_with those xs)
  unfolding grantable
  grantable_same = fun_ext (λ i. ready_same i (stations_with these xs i).phase)

  -- standing tells the same
  pub standing_same : (i : ℕ) → standing_of (stations_with these xs) i ≡ standing_of (stations_with those xs) i
  standing_same i = ap (λ (n : ℕ). record {
    state = state_of (stations_with these xs i).phase;
    stamp = stamp_of (stations_with these xs i).phase (stations_with these xs i).stamp;
    bonds = n;
    awaits = awaited (stations_with these xs i).phase;
  }) (bonds_same i)

-- the refusals of two views of the same table
module _ {V W : Type 0} (C D : Type 0) (these : ℕ → ℕ → V) (those : ℕ → ℕ → W) (show : ℕ → V) (other : ℕ → W) (t : LockTable) (records named : ℕ) where
  -- the table with these drafts
  abbrev this : Table V
  this = table_with these show t records

  -- the table with those drafts
  abbrev that : Table W
  that = table_with those other t records

  -- the tests of the station in a call that only a running station may make, before the rest
  abbrev running_and : ℕ → List (Bool × Refusal) → List (Bool × Refusal)
  running_and i rest = (leb 16 i, refusal.Station) ∷ (is_idle (this.stations i).phase, refusal.Idle) ∷ (is_waiting (this.stations i).phase, refusal.Waiting)
      ∷ (is_wounded (this.stations i).phase, refusal.Wounded) ∷ rest

  -- the same with the test of the record
  abbrev recorded_and : ℕ → ℕ → List (Bool × Refusal) → List (Bool × Refusal)
  recorded_and i r rest = running_and i ((leb records r, refusal.Record) ∷ rest)

  -- a take is refused alike
  pub take_same : (i r : ℕ) (m : Mode) → refusals {C = C} named (Take i r m) this ≡ refusals {C = D} named (Take i r m) that
  take_same i r m =
      ap (λ b. recorded_and i r ((b, refusal.Held) ∷ (leb 16 (length (this.stations i).hand), refusal.Hand) ∷ [])) (holds_same (these i) (those i) r hand held)
      ∙ ap (λ n. recorded_and i r ((is_some (hold_on r (that.stations i).hand), refusal.Held) ∷ (leb 16 n, refusal.Hand) ∷ [])) (hand_length (these i) hand held ∙ sym (hand_length (those i) hand held))
    where
      hand : List Hold
      hand = hand_at t.stations i

      held : ℕ
      held = length (hand_at t.stations i)

  -- a look is refused alike
  pub look_same : (i r : ℕ) → refusals {C = C} named (Look i r) this ≡ refusals {C = D} named (Look i r) that
  look_same i r = ap (λ b. recorded_and i r ((not b, refusal.Unowned) ∷ [])) (owns_same (these i) (those i) r (hand_at t.stations i) (length (hand_at t.stations i)))

  -- a retire is refused as a look is
  pub retire_same : (i r : ℕ) → refusals {C = C} named (Retire i r) this ≡ refusals {C = D} named (Look i r) that
  retire_same i r = look_same i r

  -- a change is refused alike
  pub change_same : (i r : ℕ) (c : C) (d : D) → refusals named (Change i r c) this ≡ refusals named (Change i r d) that
  change_same i r c d =
      ap (λ b. recorded_and i r ((not b, refusal.Unowned) ∷ (only_shared (hold_on r (this.stations i).hand), refusal.Shared) ∷ [])) (owns_same (these i) (those i) r (hand_at t.stations i) (length (hand_at t.stations i)))
      ∙ ap (λ b. recorded_and i r ((not (owns (hold_on r (that.stations i).hand)), refusal.Unowned) ∷ (b, refusal.Shared) ∷ [])) (shared_same (these i) (those i) r (hand_at t.stations i) (length (hand_at t.stations i)))

  -- a commit is refused alike
  pub commit_same : (i : ℕ) → refusals {C = C} named (Commit i) this ≡ refusals {C = D} named (Commit i) that
  commit_same i = ap (λ n. running_and i ((ltb 0 n, refusal.Bound n named) ∷ [])) (bonds_same these those t.stations i)
