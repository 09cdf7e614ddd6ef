-- Laws of the forms of accepted libraries and programs: they are undone from their own bytes, and what their segments load.
use Rattle.std.specs.Prelude.{◌≡◌, ◌≤◌, ◌<◌, ◌⊎◌, ℕ, ◌+◌, ◌*◌, ◌%◌, ◌^◌, Bool, ◌&&◌, true, false, nat_lt, List, [], length, map, slice_index_or, slice_index, Option, Some, None, Ok}
use Rattle.std.specs.List.{list_any, concat, AllZip}
use Rattle.pl_base.specs.Bytes.{IsBytes}
use Rattle.pl_base.specs.Memory.{byte_at}
use Rattle.pl_base.specs.Windows.{Window, holds}
use Rattle.pl_elf.specs.Headers.{HasSegments, header, segment, is_load}
use Rattle.pl_elf.specs.Kinds.{is_static}
use Rattle.pl_elf.specs.declared.segment.Segment.{Segment}
use Rattle.pl_object.specs.PlaceClauses.{last_load}
use Rattle.pl_object.specs.Reads.{reads}
use Rattle.pl_object.specs.Relocations.{places}
use Rattle.pl_object.specs.Tables.{link_windows, window_range}
use Rattle.pl_object.specs.declared.object.Object.{Object}
use Rattle.pl_form.specs.declared.parts.Extension.{Extension}
use Rattle.pl_form.specs.declared.parts.Listed.{Listed}
use Rattle.pl_form.specs.Back.{back, wanted}
use Rattle.pl_form.specs.Parts.{table_at, moved_segment, library_plan, program_plan}
use Rattle.pl_form.specs.Found.{reader, ss_of, secs_of, d_of, tags_of, places_of, ps_of}
use Rattle.pl_form.specs.Forms.{undo_part, form_of_library, form_of_program, original_of}
use Rattle.pl_form.specs.Loads.{stands, is_under, fills}

-- a digest has 32 bytes
abbrev pub IsDigest : Option (List ℕ) → Type 0
IsDigest None = Unit {0}
IsDigest (Some digest) = length digest ≡ 32

-- ---- what has a form

-- an accepted original that is no static program, of fewer than 2^32 bytes
pub record IsOriginal (o : List ℕ) (x : Object) : Type 0 where
  pub bytes : IsBytes o
  pub few : length o < 2 ^ 32
  pub accepted : reads o ≡ Ok x
  pub dynamic : is_static x.kind ≡ false

-- a library, with 2 spare entries in its dynamic table; there is a byte for each byte of a place, and the form is short
pub record FormsLibrary (o : List ℕ) (x : Object) (slot stamp checksum : ℕ) (l : Listed) (flat : List ℕ) (digest : Option (List ℕ)) : Type 0 where
  pub original : IsOriginal o x
  pub kind : (header o).kind ≡ 3
  pub spare : 16 * length (tags_of o) + 32 ≤ (d_of o).size
  pub filled : length flat ≡ wanted (ps_of o)
  pub digest_size : IsDigest digest
  pub slot_small : slot < 2 ^ 64
  pub even : slot % 2 ≡ 0
  pub small : table_at (library_plan (original_of o) slot stamp checksum l) o (length (undo_part (library_plan (original_of o) slot stamp checksum l) (original_of o) digest)) < 2 ^ 32

-- bytes before an offset and behind it
abbrev pub is_stray : ℕ → Segment → Bool
is_stray cut s = nat_lt s.offset cut && nat_lt cut (s.offset + s.filesz)

-- a program, with 4 spare entries, whose program headers end at or before cut; no segment has bytes before cut and behind it
pub record FormsProgram (o : List ℕ) (x : Object) (index : ℕ) (last : Segment) (e : Extension) (flat : List ℕ) (digest : Option (List ℕ)) : Type 0 where
  pub original : IsOriginal o x
  pub kind : (header o).kind ≡ 2
  pub last_in : index < (header o).phnum
  pub is_last : (d : Segment) → slice_index_or (ss_of o) index d ≡ last
  pub latest : last_load (ss_of o) ≡ Some last
  pub before : (header o).phoff + 56 * (header o).phnum ≤ last.offset + last.filesz
  pub stray : list_any (is_stray (last.offset + last.filesz)) (ss_of o) ≡ false
  pub spare : 16 * length (tags_of o) + 64 ≤ (d_of o).size
  pub filled : length flat ≡ wanted (ps_of o)
  pub digest_size : IsDigest digest
  pub small : table_at (program_plan (original_of o) index last flat e) o (length (undo_part (program_plan (original_of o) index last flat e) (original_of o) digest)) < 2 ^ 32

-- ---- forms of an original

pub record IsLibraryFormOf (file o : List ℕ) : Type 0 where
  pub x : Object
  pub slot : ℕ
  pub stamp : ℕ
  pub checksum : ℕ
  pub list : Listed
  pub flat : List ℕ
  pub digest : Option (List ℕ)
  pub forms : FormsLibrary o x slot stamp checksum list flat digest
  pub is : file ≡ form_of_library (original_of o) slot stamp checksum list flat digest

pub record IsProgramFormOf (file o : List ℕ) : Type 0 where
  pub x : Object
  pub index : ℕ
  pub last : Segment
  pub lists : Extension
  pub flat : List ℕ
  pub digest : Option (List ℕ)
  pub forms : FormsProgram o x index last lists flat digest
  pub is : file ≡ form_of_program (original_of o) index last lists flat digest

abbrev pub IsFormOfOriginal : List ℕ → List ℕ → Type 0
IsFormOfOriginal file o = IsLibraryFormOf file o ⊎ IsProgramFormOf file o

-- Back of a form is its original, whatever its version, its list and the bytes at its places
abbrev pub FormsGiveOriginals : Type 0
FormsGiveOriginals = (file o : List ℕ) → IsFormOfOriginal file o → back reader file ≡ Some o

-- so no file is a form of two originals
abbrev pub NoFormOfTwoOriginals : Type 0
NoFormOfTwoOriginals = (file o p : List ℕ) → IsFormOfOriginal file o → IsFormOfOriginal file p → o ≡ p

-- ---- what the segments of a form load

abbrev pub segment_of : List ℕ → ℕ → Segment → Segment
segment_of o i d = slice_index_or (ss_of o) i d

-- byte number k of PT_LOAD number i is loaded from no byte of a link table, and lies under no place
pub record IsFree (o : List ℕ) (i k : ℕ) (d : Segment) : Type 0 where
  pub lt : i < (header o).phnum
  pub load : is_load (segment_of o i d) ≡ true
  pub below : k < (segment_of o i d).memsz
  pub unmasked : k < (segment_of o i d).filesz → list_any (holds ((segment_of o i d).offset + k)) (link_windows (header o) (ss_of o) (secs_of o) (tags_of o)) ≡ false
  pub away : is_under (places_of o) ((segment_of o i d).vaddr + k) ≡ false

-- what stands in memory at byte k of segment number i of the original, where a file is loaded by its own program headers
abbrev pub stands_at : ℕ → List ℕ → Segment → ℕ → ℕ → ℕ
stands_at place file s i k = byte_at (place + s.vaddr + k) (stands place file s (segment file (header file) i))

abbrev pub original_at : ℕ → List ℕ → Segment → ℕ → ℕ
original_at place o s k = byte_at (place + s.vaddr + k) (stands place o s s)

-- such a byte is the original's in the form, which its own program headers load
abbrev pub LibraryFormsLoadAlike : Type 0
LibraryFormsLoadAlike = (o : List ℕ) (x : Object) (slot stamp checksum : ℕ) (l : Listed) (flat : List ℕ) (digest : Option (List ℕ)) (i k : ℕ) (d : Segment) → FormsLibrary o x slot stamp checksum l flat digest → IsFree o i k d
    → stands_at slot (form_of_library (original_of o) slot stamp checksum l flat digest) (segment_of o i d) i k ≡ original_at slot o (segment_of o i d) k

abbrev pub ProgramFormsLoadAlike : Type 0
ProgramFormsLoadAlike = (o : List ℕ) (x : Object) (index : ℕ) (last : Segment) (e : Extension) (flat : List ℕ) (digest : Option (List ℕ)) (i k : ℕ) (d : Segment) → FormsProgram o x index last e flat digest → IsFree o i k d
    → stands_at 0 (form_of_program (original_of o) index last e flat digest) (segment_of o i d) i k ≡ original_at 0 o (segment_of o i d) k

-- ---- the program headers of a form

-- the program header table of a file lies in it, and has these segments
pub record HasTable (file : List ℕ) (ss : List Segment) : Type 0 where
  pub inside : HasSegments file (header file)
  pub are : ss_of file ≡ ss

-- those of a library's form are its original's, moved: each keeps its offset and its size in the file
abbrev pub LibraryFormsAreMoved : Type 0
LibraryFormsAreMoved = (o : List ℕ) (x : Object) (slot stamp checksum : ℕ) (l : Listed) (flat : List ℕ) (digest : Option (List ℕ)) → FormsLibrary o x slot stamp checksum l flat digest
    → HasTable (form_of_library (original_of o) slot stamp checksum l flat digest) (map (moved_segment slot) (ss_of o))

-- those of a program's form are those of its plan: the last PT_LOAD grown, and the others where the inserted bytes leave them
abbrev pub ProgramsAreExtended : Type 0
ProgramsAreExtended = (o : List ℕ) (x : Object) (index : ℕ) (last : Segment) (e : Extension) (flat : List ℕ) (digest : Option (List ℕ)) → FormsProgram o x index last e flat digest
    → HasTable (form_of_program (original_of o) index last e flat digest) (program_plan (original_of o) index last flat e).segments

-- ---- what stands at a place

-- the parts of an accepted original's object are those that its own bytes show
pub record IsFoundIn (o : List ℕ) (x : Object) : Type 0 where
  pub head : x.header ≡ header o
  pub rows : x.segments ≡ ss_of o
  pub placed : places x.relocations ≡ places_of o
  pub linked : x.tables ≡ map window_range (link_windows (header o) (ss_of o) (secs_of o) (tags_of o))

abbrev pub PartsAreFound : Type 0
PartsAreFound = (o : List ℕ) (x : Object) → IsOriginal o x → IsFoundIn o x

abbrev pub place_of : List ℕ → ℕ → Window → Window
place_of o a w = slice_index_or (places_of o) a w

-- byte number k of PT_LOAD number i is byte number j of place number a
pub record IsUnder (o : List ℕ) (i k a j : ℕ) (d : Segment) (w : Window) : Type 0 where
  pub lt : i < (header o).phnum
  pub load : is_load (segment_of o i d) ≡ true
  pub below : k < (segment_of o i d).memsz
  pub place : a < length (places_of o)
  pub inside : j < (place_of o a w).size
  pub at : (segment_of o i d).vaddr + k ≡ (place_of o a w).at + j

-- of the bytes for all places, byte number j of place number a
abbrev pub fill_at : List ℕ → List ℕ → ℕ → ℕ → ℕ
fill_at o flat a j = slice_index (slice_index_or (fills (ps_of o) flat) a []) j

-- such a byte of a form is the one that was given for the place
abbrev pub LibrariesHoldFills : Type 0
LibrariesHoldFills = (o : List ℕ) (x : Object) (slot stamp checksum : ℕ) (l : Listed) (flat : List ℕ) (digest : Option (List ℕ)) (i k a j : ℕ) (d : Segment) (w : Window) → FormsLibrary o x slot stamp checksum l flat digest → IsUnder o i k a j d w
    → stands_at slot (form_of_library (original_of o) slot stamp checksum l flat digest) (segment_of o i d) i k ≡ fill_at o flat a j

abbrev pub ProgramsHoldFills : Type 0
ProgramsHoldFills = (o : List ℕ) (x : Object) (index : ℕ) (last : Segment) (e : Extension) (flat : List ℕ) (digest : Option (List ℕ)) (i k a j : ℕ) (d : Segment) (w : Window) → FormsProgram o x index last e flat digest → IsUnder o i k a j d w
    → stands_at 0 (form_of_program (original_of o) index last e flat digest) (segment_of o i d) i k ≡ fill_at o flat a j

-- there are as many bytes as a place has
abbrev pub IsAsLong : List ℕ → Window → Type 0
IsAsLong bytes place = length bytes ≡ place.size

-- bytes for each place, put one after the other, are as many as wanted, and are told apart again
pub record AreBytesOfPlaces (o : List ℕ) (given : List (List ℕ)) : Type 0 where
  pub size : length (concat given) ≡ wanted (ps_of o)
  pub same : fills (ps_of o) (concat given) ≡ given

abbrev pub FillsAreTold : Type 0
FillsAreTold = (o : List ℕ) (given : List (List ℕ)) → AllZip IsAsLong given (places_of o) → AreBytesOfPlaces o given
