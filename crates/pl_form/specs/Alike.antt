-- What a form leaves alone: the bytes that its segments load.
use Rattle.std.specs.Prelude.{◌≡◌, ◌≤◌, ℕ, List, length}
use Rattle.pl_elf.specs.declared.segment.Segment.{Segment}
use Rattle.pl_lists.specs.declared.conflict_row.ConflictRow.{ConflictRow}
use Rattle.pl_lists.specs.declared.list_row.ListRow.{ListRow}
use Rattle.pl_object.specs.declared.object.Object.{Object}
use Rattle.pl_form.specs.Back.{wanted}
use Rattle.pl_form.specs.Found.{ps_of}
use Rattle.pl_form.specs.PartLaws.{IsFree, segment_of, stands_at, original_at}
use Rattle.pl_form.specs.Library.{IsFirmLibrary, IsEven, library_with}
use Rattle.pl_form.specs.Program.{IsFirmProgram, program_with}
use Rattle.pl_form.specs.declared.constants.TheConstants.{STORED}
use Rattle.pl_form.specs.declared.version.Version.{Version}

-- a file has, at byte k of PT_LOAD number i that its own program headers load at a place, the byte that the original has there
abbrev pub LoadsAlike : ℕ → List ℕ → List ℕ → ℕ → ℕ → Segment → Type 0
LoadsAlike place file o i k d = stands_at place file (segment_of o i d) i k ≡ original_at place o (segment_of o i d) k

-- a byte of a library that is loaded from no link table and lies under no place
abbrev pub LibrariesLoadAlike : Type 0
LibrariesLoadAlike = (o : List ℕ) (x : Object) (slot stamp : ℕ) (list : List ListRow) (flat : List ℕ) (version : Version) (i k : ℕ) (d : Segment) → IsFirmLibrary o x → IsEven slot → length flat ≡ wanted (ps_of o)
    → length (library_with o slot stamp list flat version) ≤ STORED → IsFree o i k d → LoadsAlike slot (library_with o slot stamp list flat version) o i k d

-- such a byte of a program
abbrev pub ProgramsLoadAlike : Type 0
ProgramsLoadAlike = (o : List ℕ) (x : Object) (list : List ListRow) (flat : List ℕ) (conflicts : List ConflictRow) (version : Version) (i k : ℕ) (d : Segment) → IsFirmProgram o x → length flat ≡ wanted (ps_of o)
    → length (program_with o list flat conflicts version) ≤ STORED → IsFree o i k d → LoadsAlike 0 (program_with o list flat conflicts version) o i k d
