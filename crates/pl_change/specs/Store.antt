-- What storing a file changes, and removing one.
use Rattle.std.specs.Prelude.{ℕ, Bool, false, not, List, [], ◌∷◌, Result, Ok, Err, if◌then◌else◌}
use Rattle.std.specs.FinMap.{keys}
use Rattle.std.specs.Str.{bytes_eq}
use Rattle.pl_base.specs.Answers.{◌>>=◌, unless}
use Rattle.pl_base.specs.Files.{Files}
use Rattle.pl_base.specs.Names.{is_valid_name}
use Rattle.pl_folder.specs.Taken.{taken}
use Rattle.pl_folder.specs.declared.fault.FolderFault.{FolderFault}
use Rattle.pl_form.specs.Files.{file_in}
use Rattle.pl_form.specs.declared.fault.FileFault.{FileFault}
use Rattle.pl_form.specs.declared.fault.FileFault.TheVariants as file_faults
use Rattle.pl_form.specs.declared.file.File.{File}
use Rattle.pl_form.specs.declared.file.File.TheVariants.{Plain, Marked}
use Rattle.pl_journal.specs.declared.change.Change.{Change}
use Rattle.pl_journal.specs.declared.change.Change.TheVariants.{Put, Drop}
use Rattle.pl_change.specs.Names.{has_name, is_full}
use Rattle.pl_change.specs.declared.cause.Cause.{Cause}
use Rattle.pl_change.specs.declared.cause.Cause.TheVariants.{BadName, BadMark, NotThere, TooManyFiles}

-- a prelinked file is stored as its original, any other as it is; one with a mark that is no form is refused
abbrev pub stored_as : List ℕ → List ℕ → Result File FileFault → Result (List ℕ) Cause
stored_as name bytes (Ok (Plain object)) = Ok bytes
stored_as name bytes (Ok (Marked marked)) = Ok marked.original
stored_as name bytes (Err file_faults.BadMark) = Err (BadMark name)
stored_as name bytes (Err (file_faults.Refused refusal)) = Ok bytes

-- whether a folder gives these bytes
abbrev pub is_file : Result (List ℕ) FolderFault → List ℕ → Bool
is_file (Ok file) bytes = bytes_eq file bytes
is_file (Err fault) bytes = false

-- the name gets these bytes; where it has them nothing changes
abbrev pub put : Files → List ℕ → List ℕ → List Change
put files name bytes = if is_file (taken files name) bytes then [] else Put name bytes ∷ []

unfoldable pub installed : Files → List ℕ → List ℕ → Result (List Change) Cause
installed files name bytes =
    unless (not (is_valid_name name)) BadName
    (stored_as name bytes (file_in bytes) >>= λ original. unless (is_full (keys files) name) TooManyFiles (Ok (put files name original)))

unfoldable pub removed : Files → List ℕ → Result (List Change) Cause
removed files name = unless (not (is_valid_name name)) BadName (unless (not (has_name name (keys files))) (NotThere name) (Ok (Drop name ∷ [])))
