-- The files that a folder stands for, as a finite map.
use Rattle.std.specs.Prelude.{◌≡◌, ℕ, ◌+◌, not, List, [], ◌∷◌, Option, Some, None}
use Rattle.std.specs.FinMap.{get, insert, remove, retain_keys}
use Rattle.pl_base.specs.Files.{Files}
use Rattle.pl_folder.specs.Disk.{Name}
use Rattle.pl_journal.specs.Names.{beside, is_journal_name, journal}
use Rattle.pl_journal.specs.Rows.{rows_in}
use Rattle.pl_journal.specs.declared.row.Row.{Row}
use Rattle.pl_journal.specs.declared.row.Row.TheVariants.{Put, Drop}
use Rattle.pl_change.specs.Commands.{IsBefore}

-- a file under another name, where it is there
abbrev pub with_file : Option (List ℕ) → Name → Files → Files
with_file None name files = files
with_file (Some bytes) name files = insert files name bytes

-- all rows done, the first of them being row i
abbrev pub with_done : ℕ → List Row → Files → Files
with_done i [] files = files
with_done i (Put name ∷ rows) files = remove (with_file (get files (beside i)) name (with_done (i + 1) rows files)) (beside i)
with_done i (Drop name ∷ rows) files = remove (with_done (i + 1) rows files) name

abbrev pub restored_by : Option (List Row) → Files → Files
restored_by None files = files
restored_by (Some rows) files = retain_keys (with_done 0 rows files) (λ n. not (is_journal_name n))

unfoldable pub restored : Files → Files
restored files = restored_by (rows_in (get files journal)) files

-- they are what the folder stands for
abbrev pub RestoredIsBefore : Type 0
RestoredIsBefore = (files : Files) → IsBefore (get files) (restored files)

-- and no other files are
abbrev pub OneIsBefore : Type 0
OneIsBefore = (files before : Files) → IsBefore (get files) before → before ≡ restored files
