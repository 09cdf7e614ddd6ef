-- The files of a folder: a finite map from names to bytes.
use Rattle.std.specs.Prelude.{ℕ, List, map, String, Vec, string_bytes}
use Rattle.std.specs.declared.alloc.Global.{Global}
use Rattle.std.specs.Ordering.{nat_cmp}
use Rattle.std.specs.Cmp.Lexicographic.{slice_cmp}
use Rattle.std.specs.FinMap.{FinMap, from_entries}

abbrev pub Files : Type 0
Files = FinMap (slice_cmp nat_cmp) (List ℕ)

-- a file's name and bytes, as lists
abbrev pub file_entry : String Global × Vec ℕ Global → List ℕ × List ℕ
file_entry file = (string_bytes file.0, file.1.items)

-- names and bytes as files; of several with one name the first counts
abbrev pub files_of : List (String Global × Vec ℕ Global) → Files
files_of entries = from_entries (map file_entry entries)
