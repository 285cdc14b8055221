-- The kinds by name: the number that an image bears, and the word that the program takes.
use Rattle.std.specs.Prelude.{◌≡◌, ◌≢◌, ℕ, List, Result, MatchResult, codes}
use Rattle.values.specs.declared.name.KindName.{KindName}
use Rattle.values.specs.declared.name.KindName.TheVariants.{Level, Timing}
use Rattle.values.specs.declared.name.UnknownKind.{UnknownKind}
use Rattle.values.specs.declared.name.UnknownWord.{UnknownWord}

abbrev pub kind_number : KindName → ℕ
kind_number Level = 1
kind_number Timing = 2

abbrev pub kind_word : KindName → List ℕ
kind_word Level = codes "level"
kind_word Timing = codes "timing"

-- the kind that has the number, or the number where no kind has it
abbrev pub Numbered : ℕ → Result KindName UnknownKind → Type 0
Numbered n r = MatchResult r (λ name. kind_number name ≡ n) (λ e. (e.0 ≡ n) × ((name : KindName) → kind_number name ≢ n))

-- the kind that has the word, or a refusal where no kind has it
abbrev pub Worded : List ℕ → Result KindName UnknownWord → Type 0
Worded word r = MatchResult r (λ name. kind_word name ≡ word) (λ _. (name : KindName) → kind_word name ≢ word)
