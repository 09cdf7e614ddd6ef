-- Words that may be there, as they are kept.
use Rattle.std.specs.Prelude.{ℕ, Bool, List, map, Option, Some, None, if◌then◌else◌}
use Rattle.std.specs.List.{zip}
use Rattle.std.specs.Option.{is_some, unwrap_or}

abbrev pub word_by : ℕ → Bool → Option ℕ
word_by word given = if given then Some word else None

-- one for each number and whether there is one
unfoldable pub words_by : List ℕ → List Bool → List (Option ℕ)
words_by words given = map (λ p. word_by p.0 p.1) (zip words given)

abbrev pub number_of : Option ℕ → ℕ
number_of word = unwrap_or word 0

abbrev pub numbers_of : List (Option ℕ) → List ℕ
numbers_of words = map number_of words

abbrev pub givens_of : List (Option ℕ) → List Bool
givens_of words = map is_some words
