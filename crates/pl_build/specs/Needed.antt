-- The versions that are needed of other files, in the order of their first use, and those files.
use Rattle.std.specs.Prelude.{ℕ, Bool, ◌&&◌, ◌||◌, ◌==◌, List, [], ◌∷◌, ◌++◌, length, fold, if◌then◌else◌}
use Rattle.std.specs.List.{list_any}
use Rattle.std.specs.Str.{bytes_eq}
use Rattle.pl_build.specs.declared.line.SymbolLine.{SymbolLine}
use Rattle.pl_build.specs.declared.needed.Need.{Need}

-- whether a symbol has the version
abbrev pub is_need_of : SymbolLine → Need → Bool
is_need_of s need = bytes_eq need.file s.file && bytes_eq need.version s.version

unfoldable pub need_added : List Need → SymbolLine → List Need
need_added needs s =
    if length s.file == 0 || list_any (is_need_of s) needs then needs else needs ++ (record { file = s.file; version = s.version }) ∷ []

unfoldable pub needs_of : List SymbolLine → List Need
needs_of symbols = fold need_added [] symbols

unfoldable pub file_added : List (List ℕ) → Need → List (List ℕ)
file_added files need = if list_any (λ file. bytes_eq file need.file) files then files else files ++ need.file ∷ []

unfoldable pub files_of : List Need → List (List ℕ)
files_of needs = fold file_added [] needs

abbrev pub is_of : List ℕ → Need → Bool
is_of file need = bytes_eq need.file file
