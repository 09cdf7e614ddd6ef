-- What a file is, as a function of its bytes.
use Rattle.std.specs.Prelude.{◌≡◌, ◌≤◌, ◌<◌, ◌^◌, ℕ, ◌+◌, Bool, true, ◌&&◌, nat_lt, List, Option, Some, None, Result, Ok, Err}
use Rattle.std.specs.List.{list_all, AllZip}
use Rattle.pl_base.specs.Answers.{unless}
use Rattle.pl_base.specs.Bytes.{IsBytes}
use Rattle.pl_elf.specs.Headers.{HasSegments, header, is_load, segments}
use Rattle.pl_elf.specs.declared.segment.Segment.{Segment}
use Rattle.pl_object.specs.Reads.{reads}
use Rattle.pl_form.specs.Back.{◌>>=◌, when}
use Rattle.pl_form.specs.Marks.{has_mark, as_file, IsFormOf, IsBadMark, IsPlain}
use Rattle.pl_form.specs.Reading.{marked_of}
use Rattle.pl_form.specs.declared.fault.FileFault.{FileFault}
use Rattle.pl_form.specs.declared.fault.FileFault.TheVariants.{BadMark}
use Rattle.pl_form.specs.declared.file.File.{File}
use Rattle.pl_form.specs.declared.file.File.TheVariants as files
use Rattle.pl_form.specs.declared.file.Marked.{Marked}

-- ---- forms

abbrev pub is_byte : ℕ → Bool
is_byte b = nat_lt b 256

unfoldable pub are_bytes : List ℕ → Bool
are_bytes file = list_all is_byte file

-- a file and its original are bytes; any other list is no file
abbrev pub of_bytes : List ℕ → Marked → Option Marked
of_bytes file m = when (are_bytes file && are_bytes m.original) (Some m)

-- all that a file is made of, if it is a form
unfoldable pub marked_in : List ℕ → Option Marked
marked_in file = marked_of file >>= of_bytes file

abbrev pub original_or_file : List ℕ → Option Marked → List ℕ
original_or_file file None = file
original_or_file file (Some m) = m.original

-- the original of a form; any other file is its own original
unfoldable pub original_in : List ℕ → List ℕ
original_in file = original_or_file file (marked_in file)

-- ---- the whole

abbrev pub file_by : List ℕ → Option Marked → Result File FileFault
file_by file None = unless (has_mark file) BadMark (as_file (reads file))
file_by file (Some m) = Ok (files.Marked m)

-- a form; or a file with a mark, which is refused; or what acceptance says of it
unfoldable pub file_in : List ℕ → Result File FileFault
file_in file = file_by file (marked_in file)

-- ---- laws

-- a form is read as what it is made of,
abbrev pub FormsAreRead : Type 0
FormsAreRead = (file : List ℕ) (m : Marked) → IsBytes file → IsFormOf file m → marked_in file ≡ Some m

-- nothing else is,
abbrev pub NothingElseIsRead : Type 0
NothingElseIsRead = (file : List ℕ) (m : Marked) → marked_in file ≡ Some m → IsFormOf file m

-- and no original is a form
abbrev pub OriginalsAreBare : Type 0
OriginalsAreBare = (file : List ℕ) → marked_in (original_in file) ≡ None

-- a form is bytes
abbrev pub FormsAreBytes : Type 0
FormsAreBytes = (file : List ℕ) (m : Marked) → IsFormOf file m → IsBytes file

-- what a file is by its mark is what the function tells of it
abbrev pub FormsAreTold : Type 0
FormsAreTold = (file : List ℕ) (m : Marked) → IsBytes file → IsFormOf file m → file_in file ≡ Ok (files.Marked m)

abbrev pub BadAreTold : Type 0
BadAreTold = (file : List ℕ) → IsBadMark file → file_in file ≡ Err BadMark

abbrev pub PlainAreTold : Type 0
PlainAreTold = (file : List ℕ) → IsPlain file → file_in file ≡ as_file (reads file)

-- ---- the program headers of a form

-- a PT_LOAD of a form begins where its original's does, moved by the slot, and has at least its addresses
pub record IsBorne (slot : ℕ) (original borne : Segment) : Type 0 where
  pub load : is_load borne ≡ is_load original
  pub start : is_load original ≡ true → borne.vaddr ≡ slot + original.vaddr
  pub size : is_load original ≡ true → original.memsz ≤ borne.memsz
  pub end : is_load original ≡ true → borne.vaddr + borne.memsz < 2 ^ 64

-- the table lies in the file, and has the original's segments in their order
pub record BearsSegments (file : List ℕ) (m : Marked) : Type 0 where
  pub table : HasSegments file (header file)
  pub each : AllZip (IsBorne m.slot) m.object.segments (segments file (header file))

abbrev pub BearsIfMarked : List ℕ → File → Type 0
BearsIfMarked file (files.Plain x) = Unit {0}
BearsIfMarked file (files.Marked m) = BearsSegments file m
