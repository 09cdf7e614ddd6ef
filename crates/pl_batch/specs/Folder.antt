-- What a run that prelinks everything reads of a folder: what the file of each valid name is, and how large the originals are.
use Rattle.std.specs.Prelude.{◌≡◌, ℕ, Bool, nat_lt, List, length, sum_by, None, if◌then◌else◌}
use Rattle.std.specs.FinMap.{get}
use Rattle.pl_base.specs.Files.{Files}
use Rattle.pl_base.specs.Names.{is_valid_name}
use Rattle.pl_form.specs.Files.{original_in}
use Rattle.pl_form.specs.declared.file.Entry.{Entry}
use Rattle.pl_form.specs.declared.file.Entry.TheVariants.{There, BadMark, Refused}
use Rattle.pl_form.specs.declared.file.File.TheVariants.{Plain, Marked}
use Rattle.pl_rewrite.specs.Taken.{entry_in}
use Rattle.pl_rewrite.specs.TakenFile.{Taken}
use Rattle.law_sound.specs.Rule as sound
use Rattle.pl_change.specs.declared.room.TheConstants.{FOLDER}

-- the files under valid names
abbrev pub named : Files → sound.Files
named files n = if is_valid_name n then get files n else None

-- it is known what a file is
abbrev pub IsRead : Taken → Type 0
IsRead taken = taken.entry ≡ entry_in taken.bytes

-- how many bytes the original of a file of so many has, by what the file is; any file but a prelinked one is its own original
abbrev pub size_by : ℕ → Entry → ℕ
size_by size (There (Plain x)) = size
size_by size (There (Marked m)) = length m.original
size_by size BadMark = size
size_by size (Refused number argument) = size

-- the originals of these files have together more bytes than a run takes
unfoldable pub are_large : List (List ℕ) → Bool
are_large bytes = nat_lt FOLDER (sum_by (λ file. length (original_in file)) bytes)
