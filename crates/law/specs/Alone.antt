-- Running attempts alone: one value is kept for each record, and the looks and changes of each attempt are made in turn.
use Rattle.std.specs.Prelude.{◌≡◌, ℕ, cond, List, [], ◌∷◌, ◌==◌}
use Rattle.law.specs.Observer.{Entry, looked, changed, Attempt}

module _ {V C : Type 0} (apply : V → C → V) where
  -- the values that the looks and changes of an attempt leave; its newest entry comes first
  abbrev pub left : List (Entry V C) → (ℕ → V) → ℕ → V
  left [] values = values
  left (looked r answered ∷ entries) values = left entries values
  left (changed r c answered ∷ entries) values = λ q. cond (q == r) (apply (left entries values r) c) (left entries values q)

  -- each look and change gets there the answer that it was given
  abbrev pub Agrees : List (Entry V C) → (ℕ → V) → Type 0
  Agrees [] values = Unit {0}
  Agrees (looked r answered ∷ entries) values = Agrees entries values × (answered ≡ left entries values r)
  Agrees (changed r c answered ∷ entries) values = Agrees entries values × (answered ≡ apply (left entries values r) c)

  -- the values that attempts leave, run one after the other; the last comes first
  abbrev pub all_left : List (Attempt V C) → (ℕ → V) → ℕ → V
  all_left [] values = values
  all_left (a ∷ earlier) values = left a.entries (all_left earlier values)

  -- each look and change of the attempts gets there the answer that it was given
  abbrev pub AllAgree : List (Attempt V C) → (ℕ → V) → Type 0
  AllAgree [] values = Unit {0}
  AllAgree (a ∷ earlier) values = AllAgree earlier values × Agrees a.entries (all_left earlier values)
