-- The lines of a recipe, the words of a line, and the numbers and names among them.
use Rattle.std.specs.Prelude.{ℕ, ◌+◌, ◌-◌, ◌*◌, ◌%◌, ◌^◌, Bool, not, ◌&&◌, ◌||◌, nat_le, nat_eq, List, [], ◌∷◌, length, take, drop, fold, position, Option, Some, None, codes, slice_get, if◌then◌else◌}
use Rattle.std.specs.List.{list_all, starts_with}
use Rattle.std.specs.Option.{is_some, unwrap_or}
use Rattle.bstr.specs.Find.{matches}
use Rattle.bstr.specs.Text.{split_at}
use Rattle.pl_base.specs.Names.{is_valid_name}

-- the pieces of a text between a separator's places
unfoldable pub pieces : List ℕ → List ℕ → List (List ℕ)
pieces separator text = split_at text (length separator) 0 (matches text separator 0)

-- lines are parted by newlines, and words by single spaces
abbrev pub lines_of : List ℕ → List (List ℕ)
lines_of recipe = pieces (10 ∷ []) recipe

abbrev pub words_of : List ℕ → List (List ℕ)
words_of line = pieces (32 ∷ []) line

-- the word at an index; past the last word an empty one
abbrev pub word : ℕ → List (List ℕ) → List ℕ
word index words = unwrap_or (slice_get words index) []

-- ---- numbers: 1 to 16 lower-case hexadecimal digits

unfoldable pub is_digit : ℕ → Bool
is_digit d = nat_le 48 d && nat_le d 57 || nat_le 97 d && nat_le d 102

unfoldable pub digit : ℕ → ℕ
digit d = if nat_le 97 d then d - 87 else d - 48

unfoldable pub is_number : List ℕ → Bool
is_number text = nat_le 1 (length text) && nat_le (length text) 16 && list_all is_digit text

unfoldable pub digit_more : ℕ → ℕ → ℕ
digit_more number d = (number * 16 + digit d) % 2 ^ 64

unfoldable pub value : List ℕ → ℕ
value text = fold digit_more 0 text

unfoldable pub number : List ℕ → Option ℕ
number text = if is_number text then Some (value text) else None

-- an addend may have a sign before its number
unfoldable pub is_negative : List ℕ → Bool
is_negative text = starts_with nat_eq text (codes "-")

unfoldable pub magnitude : List ℕ → Option ℕ
magnitude text = number (if is_negative text then drop 1 text else text)

-- ---- written names: a name, or a name, one sign `@` or two, and a version

-- where the first sign `@` stands
unfoldable pub cut : List ℕ → Option ℕ
cut text = position (λ b. nat_eq b 64) text

abbrev pub before_cut : List ℕ → Option ℕ → List ℕ
before_cut text None = text
before_cut text (Some at) = take at text

unfoldable pub name_of : List ℕ → List ℕ
name_of text = before_cut text (cut text)

unfoldable pub has_version : List ℕ → Bool
has_version text = is_some (cut text)

abbrev pub after_cut : List ℕ → Option ℕ → List ℕ
after_cut text None = []
after_cut text (Some at) = drop 1 (drop at text)

-- whether a second sign follows the first
unfoldable pub is_doubled : List ℕ → Bool
is_doubled text = starts_with nat_eq (after_cut text (cut text)) (codes "@")

unfoldable pub version_of : List ℕ → List ℕ
version_of text = if is_doubled text then drop 1 (after_cut text (cut text)) else after_cut text (cut text)

unfoldable pub is_written : List ℕ → Bool
is_written text = is_valid_name (name_of text) && (not (has_version text) || is_valid_name (version_of text))
