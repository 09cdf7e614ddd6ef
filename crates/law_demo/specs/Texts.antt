-- Texts of a string table.
use Rattle.std.specs.Prelude.{◌≡◌, ℕ, Bool, false, true, List, [], Some, ◌||◌}
use Rattle.std.specs.List.{list_any}
use Rattle.std.specs.Str.{bytes_eq}
use Rattle.pl_base.specs.Strings.{is_zero, string_at}
use Rattle.pl_build.specs.StringTable.{start, texts_added, text_at}

-- a text is empty or among these
abbrev pub is_among : List ℕ → List (List ℕ) → Bool
is_among text texts = bytes_eq text [] || list_any (λ t. bytes_eq t text) texts

-- each text without a byte 0 that was added is found where the table says
abbrev pub TextsAreFound : Type 0
TextsAreFound = (texts : List (List ℕ)) (text : List ℕ) → list_any is_zero text ≡ false → is_among text texts ≡ true
    → string_at (text_at (texts_added start texts) text) (texts_added start texts).bytes ≡ Some text
