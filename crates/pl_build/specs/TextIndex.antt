-- Where texts stand first among rows.
use Rattle.std.specs.Prelude.{◌≡◌, ℕ, Bool, false, nat_lt, List, Option, Some, None, cond, position}
use Rattle.std.specs.BTreeMap.{get_by}
use Rattle.std.specs.Cmp.Lexicographic.{slice_cmp}
use Rattle.std.specs.Option.{option_or}
use Rattle.std.specs.Ordering.{nat_cmp}
use Rattle.std.specs.Str.{bytes_eq}
use Rattle.pl_build.specs.declared.text_index.TextIndex.{TextIndex}

-- the place that an index has for a text
abbrev pub place_of : TextIndex → List ℕ → Option ℕ
place_of index text = get_by (λ k. slice_cmp nat_cmp text k.now) index.places

-- the index of no rows
abbrev pub IsEmpty : TextIndex → Type 0
IsEmpty index = (text : List ℕ) → place_of index text ≡ None

-- a row at a place more: the texts that are its own have that place, but where they had one
abbrev pub IsNoted : {X : Type 0} → (List ℕ → X → Bool) → TextIndex → X → ℕ → TextIndex → Type 0
IsNoted is old row place new = (text : List ℕ) → place_of new text ≡ option_or (place_of old text) (cond (is text row) (Some place) None)

-- each text has the place of the first row that it is a text of
abbrev pub IsIndexOf : {X : Type 0} → (List ℕ → X → Bool) → List X → TextIndex → Type 0
IsIndexOf is rows index = (text : List ℕ) → place_of index text ≡ position (is text) rows

-- a text is that of a row, if it has one
abbrev pub is_text : List ℕ → Option (List ℕ) → Bool
is_text text None = false
is_text text (Some own) = bytes_eq own text

-- a place before another
abbrev pub is_before : ℕ → Option ℕ → Bool
is_before end None = false
is_before end (Some place) = nat_lt place end
