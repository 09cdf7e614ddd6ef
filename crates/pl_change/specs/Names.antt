-- The names of a folder, and how many files it may have.
use Rattle.std.specs.Prelude.{ℕ, Bool, not, ◌&&◌, List, nat_le, nat_lt, count_by, length, Option, Some, None, Result, Ok, Err, if◌then◌else◌}
use Rattle.std.specs.FinMap.{get}
use Rattle.std.specs.List.{list_any}
use Rattle.std.specs.Str.{bytes_eq}
use Rattle.pl_base.specs.Files.{Files}
use Rattle.pl_base.specs.Names.{is_valid_name}
use Rattle.pl_folder.specs.declared.TheConstants.{STORED}
use Rattle.pl_change.specs.declared.cause.Cause.{Cause}
use Rattle.pl_change.specs.declared.cause.Cause.TheVariants.{NotThere, FileTooLarge}
use Rattle.pl_change.specs.declared.room.TheConstants.{FILES}

-- whether a name is one of these
abbrev pub has_name : List ℕ → List (List ℕ) → Bool
has_name name names = list_any (λ other. bytes_eq name other) names

-- whether more than so many of these names are valid
unfoldable pub are_many : List (List ℕ) → Bool
are_many names = nat_lt FILES (count_by is_valid_name names)

-- whether a folder with files of these names has no room for one of that name
unfoldable pub is_full : List (List ℕ) → List ℕ → Bool
is_full names name = not (has_name name names) && nat_le FILES (count_by is_valid_name names)

-- a file that was looked up: it is to be there, and no longer than a folder gives
abbrev pub of_file : List ℕ → Option (List ℕ) → Result (List ℕ) Cause
of_file name None = Err (NotThere name)
of_file name (Some bytes) = if nat_le (length bytes) STORED then Ok bytes else Err (FileTooLarge name)

unfoldable pub file_of : Files → List ℕ → Result (List ℕ) Cause
file_of files name = of_file name (get files name)
