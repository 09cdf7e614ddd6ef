-- What a form loads, piece by piece, at one address.
use Rattle.std.specs.Prelude.{◌≡◌, ◌≤◌, ◌<◌, ℕ, ◌+◌, ◌-◌, Bool, true, false, ◌&&◌, List, [], length, map, slice_index, slice_index_or}
use Rattle.std.specs.List.{list_any, concat, AllZip}
use Rattle.pl_base.specs.Memory.{Piece, is_within, lies, byte_at}
use Rattle.pl_elf.specs.Headers.{loads}
use Rattle.pl_elf.specs.Ranges.{has}
use Rattle.pl_lists.specs.declared.conflict_row.ConflictRow.{ConflictRow}
use Rattle.pl_lists.specs.declared.list_row.ListRow.{ListRow}
use Rattle.pl_object.specs.declared.object.Object.{Object}
use Rattle.pl_object.specs.declared.reloc.Reloc.{Reloc}
use Rattle.pl_form.specs.Back.{wanted}
use Rattle.pl_form.specs.Found.{ss_of, ps_of}
use Rattle.pl_form.specs.Loads.{pieces_of, fills}
use Rattle.pl_form.specs.Parts.{moved_segment}
use Rattle.pl_form.specs.Faults.{IsFirm}
use Rattle.pl_form.specs.Library.{IsFirmLibrary, IsEven, library_with}
use Rattle.pl_form.specs.Program.{IsFirmProgram, program_with}
use Rattle.pl_form.specs.declared.constants.TheConstants.{STORED}
use Rattle.pl_form.specs.declared.version.Version.{Version}

-- a file byte of a link table is loaded at an address, where an object is loaded at a place
unfoldable pub is_linked : ℕ → Object → ℕ → Bool
is_linked place x address =
    list_any (λ s. list_any (λ table. is_within (place + s.vaddr) s.filesz address && has (s.offset + (address - (place + s.vaddr))) table) x.tables) (loads x.segments)

-- the place of a relocation has an address
abbrev pub is_over : ℕ → ℕ → Reloc → Bool
is_over place address r = is_within (place + r.address) r.width address

-- a piece of a file beside its original's, at an address. It stands where that stands; where no byte of a link table is loaded and no place is, it has that one's byte; under a place it has the byte that was given for it
pub record IsPieceOf (x : Object) (given : List (List ℕ)) (place address : ℕ) (original file : Piece) : Type 0 where
  pub start : file.start ≡ original.start
  pub size : file.size ≡ original.size
  pub away : lies address original ≡ true → is_linked place x address ≡ false → list_any (is_over place address) x.relocations ≡ false → byte_at address file ≡ byte_at address original
  pub under : (i : ℕ) (r : Reloc) → i < length x.relocations → lies address original ≡ true → is_over place address (slice_index_or x.relocations i r) ≡ true
      → byte_at address file ≡ slice_index (slice_index_or given i []) (address - (place + (slice_index_or x.relocations i r).address))

-- the pieces of a file, as its own program headers stand, beside those of the original
abbrev pub StandsFor : List ℕ → List ℕ → Object → List (List ℕ) → ℕ → ℕ → Type 0
StandsFor file o x given place address = AllZip (IsPieceOf x given place address) (pieces_of place o x.segments x.segments) (pieces_of place file x.segments (ss_of file))

-- ---- laws

-- a library's form stands for its original, whatever the bytes at its places are
abbrev pub LibrariesStandFor : Type 0
LibrariesStandFor = (o : List ℕ) (x : Object) (slot stamp : ℕ) (list : List ListRow) (flat : List ℕ) (version : Version) (address : ℕ) → IsFirmLibrary o x → IsEven slot → length flat ≡ wanted (ps_of o)
    → length (library_with o slot stamp list flat version) ≤ STORED → StandsFor (library_with o slot stamp list flat version) o x (fills (ps_of o) flat) slot address

-- as many bytes as a relocation changes
abbrev pub IsGiven : List ℕ → Reloc → Type 0
IsGiven bytes r = length bytes ≡ r.width

-- a program's, by bytes for each relocation
abbrev pub ProgramsStandFor : Type 0
ProgramsStandFor = (o : List ℕ) (x : Object) (list : List ListRow) (given : List (List ℕ)) (conflicts : List ConflictRow) (version : Version) (address : ℕ) → IsFirmProgram o x → AllZip IsGiven given x.relocations
    → length (program_with o list (concat given) conflicts version) ≤ STORED → StandsFor (program_with o list (concat given) conflicts version) o x given 0 address

-- bytes for each relocation are as many as the places want
abbrev pub GivenAreWanted : Type 0
GivenAreWanted = (o : List ℕ) (x : Object) (given : List (List ℕ)) → IsFirm o x → AllZip IsGiven given x.relocations → length (concat given) ≡ wanted (ps_of o)

-- the program headers of a library's form are its original's, moved to the slot: each keeps its offset and its size in the file
abbrev pub LibrariesAreMoved : Type 0
LibrariesAreMoved = (o : List ℕ) (x : Object) (slot stamp : ℕ) (list : List ListRow) (flat : List ℕ) (version : Version) → IsFirmLibrary o x → IsEven slot → length flat ≡ wanted (ps_of o)
    → length (library_with o slot stamp list flat version) ≤ STORED → ss_of (library_with o slot stamp list flat version) ≡ map (moved_segment slot) x.segments
