-- Lists of calls, and the calls before each of them.
use Rattle.std.proofs.Common.{◌≡◌, ℕ, zero, suc, ◌+◌, ◌<◌, ◌≤◌, List, [], ◌∷◌, ◌++◌, length, get_or, take, Some, None, sym, refl, ap, ◌∙◌, add-zero, arith, length-take}
use Rattle.std.proofs.lemmas.List.{take_more}
use Rattle.rules.specs.declared.Call.{Call}
use Rattle.rules.specs.declared.Call.TheVariants.{Count}
use Rattle.law.specs.Observer.{Engine}
use Rattle.runs.specs.declared.played.Played.{Played}
use Rattle.runs.specs.LawfulRun.{onto, answered}

-- an entry that stands for none
abbrev pub no_entry : {V C : Type 0} → Played V C
no_entry = record { call = Count; answer = None }

-- the calls before call k, the newest first
abbrev pub before : {C : Type 0} → List (Call C) → ℕ → List (Call C)
before calls k = onto [] (take k calls)

-- one call more is the newest
onto_more : {C : Type 0} (h cs : List (Call C)) (c : Call C) → onto h (cs ++ (c ∷ [])) ≡ c ∷ onto h cs
onto_more h [] c = refl
onto_more h (x ∷ cs) c = onto_more (x ∷ h) cs c

pub before_more : {C : Type 0} (calls : List (Call C)) (k : ℕ) (d : Call C) → k < length calls → before calls (k + 1) ≡ get_or calls k d ∷ before calls k
before_more calls k d l = ap (onto []) (take_more calls k d l) ∙ onto_more [] (take k calls) (get_or calls k d)

-- how many calls there are before
onto_length : {C : Type 0} (h cs : List (Call C)) → length (onto h cs) ≡ length h + length cs
onto_length h [] = sym (add-zero (length h))
onto_length h (c ∷ cs) = let e = onto_length (c ∷ h) cs in omega (arith, e)

pub before_length : {C : Type 0} (calls : List (Call C)) (k : ℕ) → k ≤ length calls → length (before calls k) ≡ k
before_length calls k l = let e = onto_length [] (take k calls) in let t = length-take k calls in omega (arith, e, t)

-- entries that each have the engine's answer are those of the engine
pub all_answered : {V C : Type 0} (e : Engine V C) (h calls : List (Call C)) (entries : List (Played V C)) → length entries ≡ length calls
    → ((k : ℕ) → k < length calls → get_or entries k no_entry ≡ record { call = get_or calls k Count; answer = Some (e (onto h (take k calls)) (get_or calls k Count)) })
    → entries ≡ answered e h calls
all_answered e h [] [] long each = refl
all_answered e h [] (p ∷ ps) long each = absurd (omega arith)
all_answered e h (c ∷ cs) [] long each = absurd (omega arith)
all_answered e h (c ∷ cs) (p ∷ ps) long each =
    let rest = all_answered e (c ∷ h) cs ps (omega (arith, long)) (λ k l. each (suc k) (omega (arith, l))) in
    let first = each zero (omega arith) in
    ap (λ x. x ∷ ps) first ∙ ap (λ xs. record { call = c; answer = Some (e h c) } ∷ xs) rest
