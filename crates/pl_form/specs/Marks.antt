-- What a file is: a form of an original, or by its mark no form, or what acceptance says of it.
use Rattle.std.specs.Prelude.{◌≡◌, ◌⊎◌, ◌≤◌, ◌<◌, ◌^◌, ℕ, ◌+◌, ◌%◌, Bool, true, false, ◌&&◌, ◌||◌, nat_eq, List, [], length, drop, Some, Result, Ok, Err, if◌then◌else◌}
use Rattle.std.specs.List.{list_any, starts_with}
use Rattle.std.specs.Result.{is_ok}
use Rattle.pl_base.specs.Bytes.{IsBytes}
use Rattle.pl_dyn.specs.Entries.{tags, is_ended}
use Rattle.pl_dyn.specs.Kinds.{is_prelink_tag}
use Rattle.pl_dyn.specs.declared.tags.Tag.{Tag}
use Rattle.pl_elf.specs.Clauses.{names, read}
use Rattle.pl_elf.specs.Headers.{header}
use Rattle.pl_elf.specs.Kinds.{is_library}
use Rattle.pl_elf.specs.declared.section.Section.{Section}
use Rattle.pl_lists.specs.Conflicts.{are_conflicts}
use Rattle.pl_lists.specs.Lists.{is_list}
use Rattle.pl_object.specs.FilePart.{loaded}
use Rattle.pl_object.specs.Reads.{reads}
use Rattle.pl_object.specs.Tables.{dynamic_memory}
use Rattle.pl_object.specs.declared.object.Object.{Object}
use Rattle.pl_object.specs.declared.refusal.Refusal.{Refusal}
use Rattle.pl_object.specs.declared.refusal.Refusal.TheVariants as refusals
use Rattle.pl_form.specs.Back.{back, wanted}
use Rattle.pl_form.specs.Found.{has_dynamic_table, ps_of, reader, secs_of, ss_of}
use Rattle.pl_form.specs.declared.section_names.TheConstants.{UNDO_NAME}
use Rattle.pl_form.specs.Faults.{IsFirm}
use Rattle.pl_form.specs.Library.{library_with}
use Rattle.pl_form.specs.Program.{program_with}
use Rattle.pl_form.specs.Words.{checksum_of}
use Rattle.pl_form.specs.declared.constants.TheConstants.{STORED}
use Rattle.pl_form.specs.declared.fault.FileFault.{FileFault}
use Rattle.pl_form.specs.declared.fault.FileFault.TheVariants.{BadMark, Refused}
use Rattle.pl_form.specs.declared.file.File.{File}
use Rattle.pl_form.specs.declared.file.File.TheVariants.{Plain}
use Rattle.pl_form.specs.declared.file.File.TheVariants as files
use Rattle.pl_form.specs.declared.file.Marked.{Marked}

-- ---- the mark, which a file may have that is no form

-- a section's name is `.gnu.prelink_undo`
abbrev pub is_undo_name : List ℕ → Section → Bool
is_undo_name names s = starts_with nat_eq (drop s.name names) UNDO_NAME

unfoldable pub has_undo_name : List ℕ → Bool
has_undo_name bytes = list_any (is_undo_name (names bytes (header bytes))) (secs_of bytes)

-- the dynamic table, where clause 9 holds of it
abbrev pub dynamic_table : List ℕ → List ℕ
dynamic_table bytes = loaded bytes (ss_of bytes) (dynamic_memory (ss_of bytes))

abbrev pub is_prelink : Tag → Bool
is_prelink tag = is_prelink_tag tag.number

-- clause 9 holds of a table, and it has a prelink tag
abbrev pub is_prelinked : List ℕ → Bool
is_prelinked table = is_ended table && list_any is_prelink (tags table)

unfoldable pub has_prelink_tag : List ℕ → Bool
has_prelink_tag bytes = has_dynamic_table (ss_of bytes) && is_prelinked (dynamic_table bytes)

-- clauses 1 to 8 hold, and there is such a section or such a tag
unfoldable pub has_mark : List ℕ → Bool
has_mark bytes = is_ok (read bytes) && (has_undo_name bytes || has_prelink_tag bytes)

-- ---- forms

-- the numbers of a library's form, and those of a program's
pub record IsLibraryMark (m : Marked) : Type 0 where
  pub library : is_library m.object.kind ≡ true
  pub aligned : m.slot % m.object.align ≡ 0
  pub below : m.slot + m.object.span ≤ 2 ^ 47
  pub stamp : m.stamp < 2 ^ 32
  pub checksum : m.checksum ≡ checksum_of m.original
  pub conflicts : m.conflicts ≡ []

pub record IsProgramMark (m : Marked) : Type 0 where
  pub program : is_library m.object.kind ≡ false
  pub slot : m.slot ≡ 0
  pub stamp : m.stamp ≡ 0
  pub checksum : m.checksum ≡ 0
  pub conflicts : are_conflicts m.conflicts ≡ true

abbrev pub IsMark : Marked → Type 0
IsMark m = IsLibraryMark m ⊎ IsProgramMark m

-- the form with these bytes at the places
unfoldable pub form_with : Marked → List ℕ → List ℕ
form_with m flat =
    if is_library m.object.kind then library_with m.original m.slot m.stamp m.list flat m.version
    else program_with m.original m.list flat m.conflicts m.version

-- a file is the form of an original that has one, and no mark of its own, whatever the bytes at the places are
pub record IsFormOf (file : List ℕ) (m : Marked) : Type 0 where
  pub firm : IsFirm m.original m.object
  pub plain : has_mark m.original ≡ false
  pub mark : IsMark m
  pub list : is_list m.list ≡ true
  pub flat : List ℕ
  pub bytes : IsBytes flat
  pub filled : length flat ≡ wanted (ps_of m.original)
  pub small : length file ≤ STORED
  pub is : file ≡ form_with m flat

-- ---- one original

-- Back of a form is its original
abbrev pub FormsAreUndone : Type 0
FormsAreUndone = (file : List ℕ) (m : Marked) → IsFormOf file m → back reader file ≡ Some m.original

-- so no file is a form of two, nor of one in two ways
abbrev pub NoFormOfTwo : Type 0
NoFormOfTwo = (file : List ℕ) (m n : Marked) → IsFormOf file m → IsFormOf file n → m ≡ n

-- ---- what a file is

abbrev pub IsNoForm : List ℕ → Type 0
IsNoForm file = (m : Marked) → IsFormOf file m → ⊥

-- it has a mark, and is a form of no original
pub record IsBadMark (file : List ℕ) : Type 0 where
  pub none : IsNoForm file
  pub mark : has_mark file ≡ true

-- it has no mark, and is a form of no original
pub record IsPlain (file : List ℕ) : Type 0 where
  pub none : IsNoForm file
  pub plain : has_mark file ≡ false

-- what acceptance says of it
abbrev pub as_file : Result Object Refusal → Result File FileFault
as_file (Ok x) = Ok (Plain x)
as_file (Err refusal) = Err (Refused refusal)

-- ---- answers

abbrev pub file_fault_is_memory : FileFault → Bool
file_fault_is_memory BadMark = false
file_fault_is_memory (Refused refusals.NoMemory) = true
file_fault_is_memory (Refused (refusals.Clause number argument)) = false

-- what an answer says of a file is so
abbrev pub IsFile : List ℕ → File → Type 0
IsFile file (Plain x) = IsPlain file × (reads file ≡ Ok x)
IsFile file (files.Marked m) = IsFormOf file m

abbrev pub IsFault : List ℕ → FileFault → Type 0
IsFault file BadMark = IsBadMark file
IsFault file (Refused refusals.NoMemory) = Unit {0}
IsFault file (Refused (refusals.Clause number argument)) = IsPlain file × (reads file ≡ Err (refusals.Clause number argument))
