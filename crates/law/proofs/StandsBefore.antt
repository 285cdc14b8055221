-- What stands before a hold, and the changes that leave it as it was.
use Rattle.std.proofs.Common.{◌≡◌, ℕ, zero, suc, ◌<◌, ◌≤◌, ◌⊎◌, Some, None, Option, refl, ap, ◌∙◌, inl, inr, arith}
use Rattle.std.proofs.lemmas.Bool.{cases_eq}
use Rattle.std.proofs.lemmas.Bool.Decides.{nat_tests}
use Rattle.rules.specs.Tables.{Stations}
use Rattle.rules.specs.Operations.{youngest, older_draft, before}

-- the youngest of the drafts that count
module _ {V : Type 0} where
  -- the same drafts with the same stamps have the same youngest
  pub youngest_same : (s s' : ℕ → ℕ) (c c' : ℕ → Option V) (v : V) → ((j : ℕ) → c' j ≡ c j)
      → ((j : ℕ) (d : V) → c j ≡ Some d → s' j ≡ s j) → (n : ℕ) → youngest s' c' v n ≡ youngest s c v n
  youngest_same s s' c c' v same stamps zero = refl
  youngest_same s s' c c' v same stamps (suc n) = grind (arith, same n, stamps n, youngest_same s s' c c' v same stamps n)

  -- of no drafts the youngest is the value given
  pub youngest_of_none : (s : ℕ → ℕ) (c : ℕ → Option V) (v : V) → (n : ℕ) → ((j : ℕ) → j < n → c j ≡ None)
      → youngest s c v n ≡ (0, v)
  youngest_of_none s c v zero none = refl
  youngest_of_none s c v (suc n) none = rw (none n (omega arith)) (youngest_of_none s c v n (λ j l. none j (omega arith)))

  -- the youngest is at least as young as each
  pub youngest_at_least : (s : ℕ → ℕ) (c : ℕ → Option V) (v : V) → (n j : ℕ) (d : V) → j < n → c j ≡ Some d
      → s j ≤ (youngest s c v n).0
  youngest_at_least s c v zero j d l e = absurd (omega arith)
  youngest_at_least s c v (suc n) j d l e = grind (arith, nat_tests, cases_eq j n, youngest_at_least s c v n j d)

  -- the youngest is one of the drafts, or there is none
  pub youngest_is_one : (s : ℕ → ℕ) (c : ℕ → Option V) (v : V) → (n : ℕ)
      → (youngest s c v n ≡ (0, v)) ⊎ ((j : ℕ) × (j < n) × (c j ≡ Some (youngest s c v n).1) × (s j ≡ (youngest s c v n).0))
  youngest_is_one s c v zero = inl refl
  youngest_is_one s c v (suc n) = grind (arith, youngest_is_one s c v n)

  -- the draft that is younger than every other is the youngest
  pub youngest_is : (s : ℕ → ℕ) (c : ℕ → Option V) (v : V) → (n k : ℕ) (d : V) → k < n → c k ≡ Some d → 0 < s k
      → ((j : ℕ) (e : V) → j < n → c j ≡ Some e → (j ≡ k → ⊥) → s j < s k) → (youngest s c v n).1 ≡ d
  youngest_is s c v n k d l e pos top = grind (arith, youngest_is_one s c v n, youngest_at_least s c v n k d, cases_eq, top)

  -- if the oldest goes and its draft becomes the value given, the youngest is as it was
  pub youngest_without_oldest : (s s' : ℕ → ℕ) (c c' : ℕ → Option V) (v : V) → (n k : ℕ) (d : V) → k < n → c k ≡ Some d → 0 < s k
      → ((j : ℕ) (e : V) → j < n → c j ≡ Some e → (j ≡ k → ⊥) → s k < s j)
      → ((i j : ℕ) (e f : V) → c i ≡ Some e → c j ≡ Some f → s i ≡ s j → i ≡ j) → c' k ≡ None
      → ((j : ℕ) → (j ≡ k → ⊥) → (c' j ≡ c j) × (s' j ≡ s j)) → (youngest s' c' d n).1 ≡ (youngest s c v n).1
  youngest_without_oldest s s' c c' v n k d l e pos least apart gone rest = go (youngest_is_one s c v n)
    where
      go : (youngest s c v n ≡ (0, v)) ⊎ ((j : ℕ) × (j < n) × (c j ≡ Some (youngest s c v n).1) × (s j ≡ (youngest s c v n).0))
          → (youngest s' c' d n).1 ≡ (youngest s c v n).1
      go (inl q) = absurd (omega (arith, ap (λ (p : ℕ × V). p.0) q, youngest_at_least s c v n k d l e))
      go (inr r) = pick (cases_eq r.0 k)
        where
          younger : (j : ℕ) (x : V) → j < n → c j ≡ Some x → s j ≤ s r.0
          younger j x lj h = omega (arith, youngest_at_least s c v n j x lj h, r.3)

          kept : (j : ℕ) (x : V) → c' j ≡ Some x → (j ≡ k → ⊥)
          kept j x h q = let g : c' j ≡ None = rw q gone in cc

          pick : (r.0 ≡ k) ⊎ (r.0 ≡ k → ⊥) → (youngest s' c' d n).1 ≡ (youngest s c v n).1
          pick (inl q) =
              let f : c k ≡ Some (youngest s c v n).1 = rw (← q) r.2 in
              let only : youngest s' c' d n ≡ (0, d) = youngest_of_none s' c' d n none in
              let same : d ≡ (youngest s c v n).1 = cc in
              ap (λ (p : ℕ × V). p.1) only ∙ same
            where
              none : (j : ℕ) → j < n → c' j ≡ None
              none j lj = grind (arith, cases_eq j k, rest j, least j, younger j)
          pick (inr q) =
              youngest_is s' c' d n r.0 (youngest s c v n).1 r.1 ((rest r.0 q).0 ∙ r.2)
              (rw (rest r.0 q).1 (omega (arith, least r.0 (youngest s c v n).1 r.1 r.2 q))) others
            where
              others : (j : ℕ) (x : V) → j < n → c' j ≡ Some x → (j ≡ r.0 → ⊥) → s' j < s' r.0
              others j x lj h ne = grind (arith, kept j x, rest j, rest r.0 q, apart j r.0 x (youngest s c v n).1, younger j x lj)

-- station j counts for station i at record r as it did: with the same stamp and draft, or for nothing
abbrev pub CountsAlike : {V : Type 0} → Stations V → Stations V → ℕ → ℕ → ℕ → Type 0
CountsAlike t t' i r j = (((t' j).stamp ≡ (t j).stamp) × (older_draft t' i r j ≡ older_draft t i r j)) ⊎
    ((older_draft t' i r j ≡ None) × (older_draft t i r j ≡ None))

-- what stands before is as it was, if each station counts as it did
pub before_unchanged : {V : Type 0} (t t' : Stations V) (show : ℕ → V) (i r : ℕ) → ((j : ℕ) → CountsAlike t t' i r j)
    → before t' show i r ≡ before t show i r
unfolding before
before_unchanged {V} t t' show i r each =
    ap (λ (p : ℕ × V). p.1) (youngest_same (λ j. (t j).stamp) (λ j. (t' j).stamp) (older_draft t i r) (older_draft t' i r) (show r)
    (λ j. same j (each j)) (λ j d e. stamps j d e (each j)) 16)
  where
    same : (j : ℕ) → CountsAlike t t' i r j → older_draft t' i r j ≡ older_draft t i r j
    same j p = grind arith

    stamps : (j : ℕ) (d : V) → older_draft t i r j ≡ Some d → CountsAlike t t' i r j → (t' j).stamp ≡ (t j).stamp
    stamps j d e p = grind arith

-- if no draft counts, the plotted value stands before
pub before_is_plotted : {V : Type 0} (t : Stations V) (show : ℕ → V) (i r : ℕ) → ((j : ℕ) → j < 16 → older_draft t i r j ≡ None)
    → before t show i r ≡ show r
unfolding before
before_is_plotted {V} t show i r none = ap (λ (p : ℕ × V). p.1)
    (youngest_of_none (λ j. (t j).stamp) (older_draft t i r) (show r) 16 none)
