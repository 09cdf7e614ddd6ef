-- The lines of a script, by their words.
use Rattle.std.specs.Prelude.{ℕ, ◌-◌, ◌^◌, Bool, not, ◌&&◌, ◌||◌, ◌==◌, nat_eq, nat_le, nat_lt, List, [], ◌∷◌, length, take, Option, Some, None, codes, if◌then◌else◌}
use Rattle.std.specs.List.{list_all, ends_with, starts_with}
use Rattle.std.specs.Str.{bytes_eq}
use Rattle.std.specs.Str.Parse.{digits_value}
use Rattle.bstr.specs.Find.{matches}
use Rattle.bstr.specs.Text.{split_at}
use Rattle.pl_base.specs.Names.{is_valid_name}
use Rattle.pl_script.specs.declared.line.Line.{Line}
use Rattle.pl_script.specs.declared.line.Line.TheVariants.{Wrong, Load, Runs, Open, Rename}
use Rattle.pl_script.specs.declared.line.RunLine.{RunLine}
use Rattle.pl_script.specs.declared.line.RunLine.TheVariants.{Prelink, UndoAll, Undo, Install}

-- ---- lines and words

-- the pieces of a text between a separator's places
unfoldable pub pieces : List ℕ → List ℕ → List (List ℕ)
pieces separator text = split_at text (length separator) 0 (matches text separator 0)

-- a text without the newline that ends it, if one does
unfoldable pub body : List ℕ → List ℕ
body text = if ends_with nat_eq text (10 ∷ []) then take (length text - 1) text else text

-- lines are parted by newlines, and the last line may lack its own; a text without bytes has no lines
unfoldable pub lines_of : List ℕ → List (List ℕ)
lines_of text = if length text == 0 then [] else pieces (10 ∷ []) (body text)

-- words are parted by single spaces
abbrev pub words_of : List ℕ → List (List ℕ)
words_of line = pieces (32 ∷ []) line

-- the words of a line, each of which is a valid name; none where one is not
unfoldable pub valid_words : List ℕ → Option (List (List ℕ))
valid_words line = if list_all is_valid_name (words_of line) then Some (words_of line) else None

-- ---- numbers

-- `0` to `9`
unfoldable pub is_digit : ℕ → Bool
is_digit d = nat_le 48 d && nat_le d 57

-- decimal digits, at least one, and no `0` before another digit
unfoldable pub is_number : List ℕ → Bool
is_number text = nat_lt 0 (length text) && list_all is_digit text && (length text == 1 || not (starts_with nat_eq text (codes "0")))

-- the number that they spell, in 32 bits
unfoldable pub number : List ℕ → Option ℕ
number text = if is_number text && nat_lt (digits_value 10 text) (2 ^ 32) then Some (digits_value 10 text) else None

-- ---- lines by their words

-- `prelink NOW`
abbrev pub prelink_line : Option ℕ → Line
prelink_line None = Wrong
prelink_line (Some now) = Runs (Prelink now)

-- `open K`
abbrev pub open_line : Option ℕ → Line
open_line None = Wrong
open_line (Some loader) = Open loader

-- a keyword and one word
unfoldable pub pair : List ℕ → List ℕ → Line
pair keyword word =
    if bytes_eq keyword (codes "load") then Load word
    else if bytes_eq keyword (codes "prelink") then prelink_line (number word)
    else if bytes_eq keyword (codes "open") then open_line (number word)
    else Wrong

-- a keyword and two words
abbrev pub install_line : List ℕ → List ℕ → List ℕ → Line
install_line keyword name from = if bytes_eq keyword (codes "install") then Runs (Install name from) else Wrong

-- `undo` and `undo NAME..`
abbrev pub undo_line : List (List ℕ) → RunLine
undo_line [] = UndoAll
undo_line (name ∷ names) = Undo (name ∷ names)

-- a keyword and words, but for `undo`
unfoldable pub other_line : List ℕ → List (List ℕ) → Line
other_line keyword [] = if bytes_eq keyword (codes "rename") then Rename else Wrong
other_line keyword (word ∷ []) = pair keyword word
other_line keyword (name ∷ from ∷ []) = install_line keyword name from
other_line keyword (first ∷ second ∷ third ∷ words) = Wrong

unfoldable pub line_by : List ℕ → List (List ℕ) → Line
line_by keyword words = if bytes_eq keyword (codes "undo") then Runs (undo_line words) else other_line keyword words

-- what words say
unfoldable pub line_of : List (List ℕ) → Line
line_of [] = Wrong
line_of (keyword ∷ words) = line_by keyword words

abbrev pub if_valid : Option (List (List ℕ)) → Line
if_valid None = Wrong
if_valid (Some words) = line_of words

-- the line that a text spells
unfoldable pub line : List ℕ → Line
line text = if_valid (valid_words text)
