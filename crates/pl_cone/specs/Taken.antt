-- Files that were taken from a folder, and what they are.
use Rattle.std.specs.Prelude.{◌≡◌, ◌≤◌, ℕ, Bool, false, List, map, find, length, Option, Some, None, Result, Ok, Err}
use Rattle.std.specs.List.{All, IsDistinct}
use Rattle.std.specs.Option.{option_map}
use Rattle.std.specs.Str.{bytes_eq}
use Rattle.pl_base.specs.Bytes.{IsBytes}
use Rattle.pl_elf.specs.declared.range.Range.{Range}
use Rattle.pl_form.specs.Files.{file_in, original_in}
use Rattle.pl_form.specs.declared.constants.TheConstants.{STORED}
use Rattle.pl_form.specs.declared.fault.FileFault.{FileFault}
use Rattle.pl_form.specs.declared.fault.FileFault.TheVariants as unread
use Rattle.pl_form.specs.declared.file.Entry.{Entry}
use Rattle.pl_form.specs.declared.file.Entry.TheVariants.{There, BadMark, Refused}
use Rattle.pl_elf.specs.Kinds.{is_library}
use Rattle.pl_form.specs.declared.file.File.{File}
use Rattle.pl_form.specs.declared.file.File.TheVariants.{Plain, Marked}
use Rattle.pl_form.specs.declared.file.Marked as form
use Rattle.pl_object.specs.declared.object.Object.{Object}
use Rattle.pl_object.specs.declared.refusal.Refusal.TheVariants.{Clause, NoMemory}
use Rattle.law_sound.specs.Rule.{Files}
use Rattle.pl_cone.specs.Faults.{fault_of, fault_in}
use Rattle.pl_cone.specs.declared.taken.Taken.{Taken}

-- ---- what a file is

-- that it is read, or why not; no file is refused for want of memory
abbrev pub entry_by : Result File FileFault → Entry
entry_by (Ok file) = There file
entry_by (Err unread.BadMark) = BadMark
entry_by (Err (unread.Refused (Clause number argument))) = Refused number argument
entry_by (Err (unread.Refused NoMemory)) = BadMark

unfoldable pub entry_in : List ℕ → Entry
entry_in bytes = entry_by (file_in bytes)

-- the object of its original
abbrev pub object_of : File → Object
object_of (Plain x) = x
object_of (Marked m) = m.object

abbrev pub object_by : Entry → Option Object
object_by (There file) = Some (object_of file)
object_by BadMark = None
object_by (Refused number argument) = None

-- all that was read of a file, if it is prelinked
abbrev pub marked_by : Entry → Option form.Marked
marked_by (There (Plain x)) = None
marked_by (There (Marked m)) = Some m
marked_by BadMark = None
marked_by (Refused number argument) = None

-- a library, prelinked or not
abbrev pub is_library_entry : Entry → Bool
is_library_entry (There file) = is_library (object_of file).kind
is_library_entry BadMark = false
is_library_entry (Refused number argument) = false

-- the first form fault of that
abbrev pub fault_of_entry : Range → Entry → Option ℕ
fault_of_entry region (There file) = fault_of region (object_of file)
fault_of_entry region BadMark = None
fault_of_entry region (Refused number argument) = None

-- ---- files that were taken

-- a file by its name and bytes, with the form fault of its original under a region of slots
unfoldable pub taken_of : Range → List ℕ → List ℕ → Taken
taken_of region name bytes = record { name = name; bytes = bytes; entry = entry_in bytes; fault = fault_in region (original_in bytes) }

-- a file that was taken is bytes, no more than a folder stores, and what is told of it is so
pub record IsTaken (region : Range) (t : Taken) : Type 0 where
  pub is : t ≡ taken_of region t.name t.bytes
  pub bytes : IsBytes t.bytes
  pub small : length t.bytes ≤ STORED

-- what is told of a file is what its bytes are
abbrev pub HasItsEntry : Taken → Type 0
HasItsEntry t = t.entry ≡ entry_in t.bytes

abbrev pub names_of : List Taken → List (List ℕ)
names_of ts = map (λ t. t.name) ts

-- files that were taken under a region of slots, none of them twice
pub record AreTaken (region : Range) (ts : List Taken) : Type 0 where
  pub each : All (IsTaken region) ts
  pub distinct : IsDistinct bytes_eq (names_of ts)

-- the folder that has these files
unfoldable pub files_in : List Taken → Files
files_in ts n = option_map (λ t. t.bytes) (find (λ t. bytes_eq t.name n) ts)

-- files that were taken under some region of slots
abbrev pub WereTaken : List Taken → Type 0
WereTaken ts = (region : Range) × AreTaken region ts
