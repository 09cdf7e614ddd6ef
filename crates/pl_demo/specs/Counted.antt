-- How many relocations and conflict rows files have.
use Rattle.std.specs.Prelude.{◌≡◌, ℕ, ◌+◌, List, length, fold, Result, Ok, Err, string_bytes, if◌then◌else◌}
use Rattle.pl_base.specs.Files.{Files}
use Rattle.pl_base.specs.Names.{is_valid_name}
use Rattle.pl_folder.specs.InMemory.{quiet_files}
use Rattle.pl_folder.specs.Taken.{taken}
use Rattle.pl_folder.specs.declared.fault.FolderFault.{FolderFault}
use Rattle.pl_folder.specs.declared.quiet_folder.QuietFolder.{QuietFolder}
use Rattle.pl_form.specs.Files.{file_in}
use Rattle.pl_form.specs.declared.fault.FileFault.{FileFault}
use Rattle.pl_form.specs.declared.file.File.{File}
use Rattle.pl_form.specs.declared.file.File.TheVariants.{Plain, Marked}
use Rattle.pl_gen.specs.declared.set.DemoFile.{DemoFile}
use Rattle.pl_demo.specs.declared.counting.Counts.{Counts}

-- a folder has the files that it had
abbrev pub HasSameFiles : QuietFolder → QuietFolder → Type 0
HasSameFiles old new = quiet_files new ≡ quiet_files old

-- ---- one file

abbrev pub none : Counts
none = record { relocations = 0; conflicts = 0 }

-- the relocations of a file's object, of a prelinked one those of its original, and its conflict rows
abbrev pub counts_by : File → Counts
counts_by (Plain object) = record { relocations = length object.relocations; conflicts = 0 }
counts_by (Marked marked) = record { relocations = length marked.object.relocations; conflicts = length marked.conflicts }

-- a file that is refused has none
abbrev pub counts_if : Result File FileFault → Counts
counts_if (Ok file) = counts_by file
counts_if (Err fault) = none

-- nor has a name without a file
abbrev pub counts_in : Result (List ℕ) FolderFault → Counts
counts_in (Ok bytes) = counts_if (file_in bytes)
counts_in (Err fault) = none

unfoldable pub counts_of : Files → List ℕ → Counts
counts_of files name = if is_valid_name name then counts_in (taken files name) else none

-- ---- many files

abbrev pub plus : Counts → Counts → Counts
plus a b = record { relocations = a.relocations + b.relocations; conflicts = a.conflicts + b.conflicts }

-- those of the files of all names together
unfoldable pub all_counts : Files → List (List ℕ) → Counts
all_counts files names = fold (λ total name. plus total (counts_of files name)) none names

-- ---- as the code has it

abbrev pub with_counts : Files → Counts → DemoFile → Counts
with_counts files total file = plus total (counts_of files (string_bytes file.name))
