-- A table of strings (System V gABI chapter 4, "String Table"): a 0 byte, then each text once, ended by a 0 byte.
use Rattle.std.specs.Prelude.{ℕ, Bool, ◌||◌, ◌==◌, List, [], ◌∷◌, ◌++◌, length, find, fold, Option, Some, None, codes, if◌then◌else◌}
use Rattle.std.specs.List.{list_any}
use Rattle.std.specs.Str.{bytes_eq}
use Rattle.pl_build.specs.declared.line.SymbolLine.{SymbolLine}
use Rattle.pl_build.specs.declared.needed.Need.{Need}
use Rattle.pl_build.specs.declared.roles.Role.{Role}
use Rattle.pl_build.specs.declared.string_table.Entry.{Entry}
use Rattle.pl_build.specs.declared.string_table.StringTable.{StringTable}
use Rattle.pl_build.specs.Needed.{is_of}
use Rattle.pl_build.specs.Roles.{section_name}

abbrev pub start : StringTable
start = record { bytes = 0 ∷ []; entries = [] }

abbrev pub has_text : List ℕ → Entry → Bool
has_text text entry = bytes_eq entry.text text

-- bytes, and behind them a text and its end
abbrev pub ended : List ℕ → List ℕ → List ℕ
ended bytes text = bytes ++ text ++ 0 ∷ []

-- a text behind the others
abbrev pub text_behind : StringTable → List ℕ → StringTable
text_behind s text = record { bytes = ended s.bytes text; entries = s.entries ++ (record { text = text; at = length s.bytes }) ∷ [] }

-- one text more, unless it is empty or there already
unfoldable pub text_added : StringTable → List ℕ → StringTable
text_added s text =
    if bytes_eq text [] || list_any (has_text text) s.entries then s
    else record { bytes = ended s.bytes text; entries = s.entries ++ (record { text = text; at = length s.bytes }) ∷ [] }

abbrev pub at_of : Option Entry → ℕ
at_of (Some entry) = entry.at
at_of None = 0

-- where a text begins; the empty one begins at 0
unfoldable pub text_at : StringTable → List ℕ → ℕ
text_at s text = at_of (find (has_text text) s.entries)

unfoldable pub texts_added : StringTable → List (List ℕ) → StringTable
texts_added s texts = fold text_added s texts

abbrev pub symbol_added : StringTable → SymbolLine → StringTable
symbol_added s symbol = text_added s symbol.name

unfoldable pub symbols_added : StringTable → List SymbolLine → StringTable
symbols_added s symbols = fold symbol_added s symbols

-- the versions of a recipe, behind the name of their base
unfoldable pub versions_added : StringTable → List (List ℕ) → StringTable
versions_added s versions = if length versions == 0 then s else texts_added (text_added s (codes "base")) versions

abbrev pub need_text_added : List ℕ → StringTable → Need → StringTable
need_text_added file s need = if is_of file need then text_added s need.version else s

-- a file's name and the versions that are needed of it
unfoldable pub file_texts_added : List Need → StringTable → List ℕ → StringTable
file_texts_added needs s file = fold (need_text_added file) (text_added s file) needs

unfoldable pub files_added : List Need → StringTable → List (List ℕ) → StringTable
files_added needs s files = fold (file_texts_added needs) s files

-- the names of sections
abbrev pub role_text_added : StringTable → Role → StringTable
role_text_added s role = text_added s (section_name role)

unfoldable pub section_names : List Role → StringTable
section_names roles = fold role_text_added start roles
