-- What widening has to do: the widened set is the least closed one with the first members.
use Rattle.std.specs.Prelude.{◌≡◌, ℕ, ◌<◌, Bool, true, false, ◌&&◌, ◌||◌, List, [], ◌∷◌, is_some, ◌==◌}
use Rattle.rules.specs.Tables.{Hold, Stations}
use Rattle.rules.specs.Operations.{widen}

-- is there a hold on record r in a hand?
abbrev pub holds : {V : Type 0} → ℕ → List (Hold V) → Bool
holds r [] = false
holds r (h ∷ hs) = h.record_number == r || holds r hs

-- is there an exclusive hold on record r in a hand?
abbrev pub holds_exclusively : {V : Type 0} → ℕ → List (Hold V) → Bool
holds_exclusively r [] = false
holds_exclusively r (h ∷ hs) = (is_some h.draft && h.record_number == r) || holds_exclusively r hs

-- station j holds a record exclusively, and the younger station i holds it
abbrev pub Follows : {V : Type 0} → Stations V → ℕ → ℕ → Type 0
Follows t j i = (r : ℕ) × (holds_exclusively r (t j).hand ≡ true) × (holds r (t i).hand ≡ true) × ((t j).stamp < (t i).stamp)

-- whoever follows a member is a member
abbrev pub Closed : {V : Type 0} → Stations V → (ℕ → Bool) → Type 0
Closed t members = (j i : ℕ) → j < 16 → i < 16 → members j ≡ true → Follows t j i → members i ≡ true

-- every member of the first set is one of the second
abbrev pub Within : (ℕ → Bool) → (ℕ → Bool) → Type 0
Within few many = (i : ℕ) → few i ≡ true → many i ≡ true

-- the widened set has the first members, is closed, and is within every closed set that has the first members
pub record LeastClosed {V : Type 0} (t : Stations V) (first widened : ℕ → Bool) : Type 0 where
  pub has_first : Within first widened
  pub closed : Closed t widened
  pub least : (other : ℕ → Bool) → Within first other → Closed t other → Within widened other

-- widening gives the least closed set, in every table
abbrev pub WideningIsLeast : Type 0 → Type 0
WideningIsLeast V = (t : Stations V) (first : ℕ → Bool) → LeastClosed t first (widen t first)
