-- What undoing changes: a prelinked file gets its original.
use Rattle.std.specs.Prelude.{ℕ, not, List, [], ◌∷◌, ◌++◌, Option, Some, None, Result, Ok, Err, if◌then◌else◌}
use Rattle.std.specs.FinMap.{keys}
use Rattle.pl_base.specs.Answers.{◌>>=◌, unless}
use Rattle.pl_base.specs.Each.{run}
use Rattle.pl_base.specs.Files.{Files}
use Rattle.pl_base.specs.Names.{is_valid_name}
use Rattle.pl_form.specs.Files.{file_in}
use Rattle.pl_form.specs.declared.fault.FileFault.{FileFault}
use Rattle.pl_form.specs.declared.fault.FileFault.TheVariants as file_faults
use Rattle.pl_form.specs.declared.file.File.{File}
use Rattle.pl_form.specs.declared.file.File.TheVariants.{Plain, Marked}
use Rattle.pl_journal.specs.declared.change.Change.{Change}
use Rattle.pl_journal.specs.declared.change.Change.TheVariants.{Put}
use Rattle.pl_change.specs.Names.{are_many, file_of, has_name}
use Rattle.pl_change.specs.declared.cause.Cause.{Cause}
use Rattle.pl_change.specs.declared.cause.Cause.TheVariants.{BadName, BadMark, TooManyFiles}

-- ---- one name

-- a prelinked file gets its original; any other stays, and has no row
abbrev pub form_row : List ℕ → Result File FileFault → Option Change
form_row name (Ok (Plain object)) = None
form_row name (Ok (Marked marked)) = Some (Put name marked.original)
form_row name (Err fault) = None

-- the same of a name that was asked for: a file with a mark that is no form is refused
abbrev pub asked_row : List ℕ → Result File FileFault → Result (Option Change) Cause
asked_row name (Ok file) = Ok (form_row name (Ok file))
asked_row name (Err file_faults.BadMark) = Err (BadMark name)
asked_row name (Err (file_faults.Refused refusal)) = Ok None

-- a name of the words: valid, there, of a file that is not too large and has no false mark
unfoldable pub undo_asked : Files → List ℕ → Result (Option Change) Cause
undo_asked files name = unless (not (is_valid_name name)) BadName (file_of files name >>= λ bytes. asked_row name (file_in bytes))

-- a name of the folder: a file with a mark that is no form stays as it is
unfoldable pub undo_any : Files → List ℕ → Result (Option Change) Cause
undo_any files name = file_of files name >>= λ bytes. Ok (form_row name (file_in bytes))

-- ---- many names

abbrev pub added : List Change → Option Change → List Change
added rows None = rows
added rows (Some row) = rows ++ row ∷ []

-- the row of a name more
abbrev pub with_row : (List ℕ → Result (Option Change) Cause) → List Change → List ℕ → Result (List Change) Cause
with_row row rows name = row name >>= λ more. Ok (added rows more)

-- the rows of these names in turn, or the first cause
unfoldable pub rows_of : (List ℕ → Result (Option Change) Cause) → List (List ℕ) → Result (List Change) Cause
rows_of row names = run (with_row row) [] names

abbrev pub passes : (List ℕ → Result (Option Change) Cause) → Unit {0} → List ℕ → Result (Unit {0}) Cause
passes row u name = row name >>= λ more. Ok tt

-- that none of these names has a cause, or the first
unfoldable pub all_pass : (List ℕ → Result (Option Change) Cause) → List (List ℕ) → Result (Unit {0}) Cause
all_pass row names = run (passes row) tt names

-- of the folder's names those that were asked for
abbrev pub if_asked : List (List ℕ) → Files → List ℕ → Result (Option Change) Cause
if_asked asked files name = if has_name name asked then undo_asked files name else Ok None

-- and those that are valid
abbrev pub if_valid : Files → List ℕ → Result (Option Change) Cause
if_valid files name = if is_valid_name name then undo_any files name else Ok None

-- ---- the commands

-- The names that were asked for have their causes in the order of the words; then the rows ascend by name, one for each prelinked file.
unfoldable pub undone : Files → List (List ℕ) → Result (List Change) Cause
undone files asked = unless (are_many (keys files)) TooManyFiles (all_pass (undo_asked files) asked >>= λ u. rows_of (if_asked asked files) (keys files))

unfoldable pub all_undone : Files → Result (List Change) Cause
all_undone files = unless (are_many (keys files)) TooManyFiles (rows_of (if_valid files) (keys files))
