-- The prelinked file of a name: a function of the members of its walk, it first, each with its original, version, slot and stamp (Jelínek, "Prelink").
use Rattle.std.specs.Prelude.{ℕ, ◌+◌, ◌%◌, ◌^◌, Bool, false, not, ◌&&◌, ◌||◌, ◌==◌, nat_le, nat_lt, List, [], ◌∷◌, map, length, find, filter, Option, Some, None, Result, Ok, Err, if◌then◌else◌}
use Rattle.std.specs.List.{list_all, filter_map, flat_map, concat}
use Rattle.std.specs.Str.{bytes_eq}
use Rattle.pl_base.specs.Memory.{layered, read}
use Rattle.pl_base.specs.Windows.{Window, any_share}
use Rattle.pl_elf.specs.Headers.{loads}
use Rattle.pl_elf.specs.Kinds.{is_library}
use Rattle.pl_elf.specs.declared.constants.TheConstants.{ADDRESS_LIMIT}
use Rattle.pl_elf.specs.declared.segment.Segment.{Segment}
use Rattle.pl_form.specs.Files.{are_bytes}
use Rattle.pl_form.specs.Library.{library_form}
use Rattle.pl_form.specs.Program.{program_with}
use Rattle.pl_form.specs.Reading.{firm_object}
use Rattle.pl_form.specs.Words.{checksum_of}
use Rattle.pl_form.specs.declared.constants.TheConstants.{STORED}
use Rattle.pl_form.specs.declared.version.Version.{Version}
use Rattle.pl_form.specs.declared.version.Version.TheVariants.{One, Two}
use Rattle.pl_image.specs.Image.{all_pieces}
use Rattle.pl_lists.specs.Lists.{is_list}
use Rattle.pl_lists.specs.declared.conflict_row.ConflictRow.{ConflictRow}
use Rattle.pl_lists.specs.declared.list_row.ListRow.{ListRow}
use Rattle.pl_object.specs.declared.object.Object.{Object}
use Rattle.pl_form.specs.Back.{when}
use Rattle.pl_scope.specs.Members.{names, told}
use Rattle.pl_scope.specs.Walk.{Walked, walk_over}
use Rattle.law_sound.specs.Rule.{Member}
use Rattle.pl_tls.specs.Layout.{offsets}
use Rattle.pl_tls.specs.declared.module.Module.{Module}
use Rattle.pl_value.specs.Linked.{relocated}
use Rattle.pl_value.specs.Meanings.{meanings}
use Rattle.pl_value.specs.Ordinary.{loaded_objects}
use Rattle.pl_value.specs.declared.meaning.Meaning.{Meaning}
use Rattle.pl_conflict.specs.Own.{own_words}
use Rattle.pl_conflict.specs.Conflicts.{conflicts}

-- ---- the members of a walk

-- a member with the object of its original
pub record Firm : Type 0 where
  pub member : Member
  pub object : Object

abbrev pub with_object : Member → Option Object → Option Firm
with_object m None = None
with_object m (Some o) = Some (record { member = m; object = o })

-- a member whose original has a form: it is accepted, no static program, has no form fault other than InRegion, and bears no mark
abbrev pub firm_of : Member → Option Firm
firm_of m = with_object m (when (are_bytes m.original) (firm_object m.original))

-- the first and the rest, where both are there
abbrev pub joined : Option Firm → Option (List Firm) → Option (List Firm)
joined None rest = None
joined (Some r) None = None
joined (Some r) (Some rs) = Some (r ∷ rs)

-- all of them, where each original has a form
unfoldable pub all_firm : List Member → Option (List Firm)
all_firm [] = Some []
all_firm (m ∷ ms) = joined (firm_of m) (all_firm ms)

abbrev pub objects_of : List Firm → List Object
objects_of rs = map (λ r. r.object) rs

abbrev pub slots_of : List Firm → List ℕ
slots_of rs = map (λ r. r.member.slot) rs

abbrev pub originals_of : List Firm → List (List ℕ)
originals_of rs = map (λ r. r.member.original) rs

abbrev pub walked_of : List Firm → Walked
walked_of rs = map (λ r. (r.member.name, r.object)) rs

-- ---- their numbers and their list

-- 1 and 2 are the versions that there are
abbrev pub version_of : ℕ → Version
version_of number = if number == 1 then One else Two

abbrev pub is_version : ℕ → Bool
is_version number = number == 1 || number == 2

-- a library's slot is a multiple of its alignment, its range ends at or below the limit of addresses, and its stamp has 32 bits; a program has slot and stamp 0
unfoldable pub has_numbers : Firm → Bool
has_numbers r =
    is_version r.member.version
    && (if is_library r.object.kind
    then r.member.slot % r.object.align == 0 && nat_le (r.member.slot + r.object.span) ADDRESS_LIMIT && nat_lt r.member.stamp (2 ^ 32)
    else r.member.slot == 0 && r.member.stamp == 0)

-- what a library takes up at its slot, and what a program's PT_LOADs do
abbrev pub load_window : Segment → Window
load_window s = record { at = s.vaddr; size = s.memsz }

unfoldable pub windows_of : Firm → List Window
windows_of r = if is_library r.object.kind then record { at = r.member.slot; size = r.object.span } ∷ [] else map load_window (loads r.object.segments)

-- the rows of other members: their names, their stamps and the checksums of their originals
abbrev pub list_row : Firm → ListRow
list_row r = record { name = r.member.name; stamp = r.member.stamp; checksum = checksum_of r.member.original }

abbrev pub list_of : List Firm → List ListRow
list_of rs = map list_row rs

-- each member's numbers are such, what the members take up has no address in common, and the list of the others is one that can be written
unfoldable pub are_set : List Firm → Bool
are_set [] = false
are_set (r ∷ rs) = list_all has_numbers (r ∷ rs) && not (any_share (flat_map windows_of (r ∷ rs))) && is_list (list_of rs)

-- ---- the file of a library

-- by the members of its own walk, it first: its own words at its places
unfoldable pub library_file : List Firm → List ℕ
library_file [] = []
library_file (r ∷ rs) =
    library_form r.member.original r.member.slot r.member.stamp (list_of rs) (own_words (objects_of (r ∷ rs)) (slots_of (r ∷ rs))) (version_of r.member.version)

-- ---- the file of a program

abbrev pub named : List Firm → List ℕ → Option Firm
named rs n = find (λ r. bytes_eq r.member.name n) rs

abbrev pub names_in : {E : Type 0} → Result Walked E → List (List ℕ)
names_in (Ok walked) = names walked
names_in (Err e) = []

-- the members of a member's own walk, it first
unfoldable pub own_walk : List Firm → List ℕ → List Firm
own_walk rs n = filter_map (named rs) (names_in (walk_over (told (walked_of rs)) n))

-- the files with which conflicts are compared: the program's original, and each library's prelinked file
unfoldable pub part_of : List Firm → Firm → List ℕ
part_of rs r = if is_library r.object.kind then library_file (own_walk rs r.member.name) else r.member.original

abbrev pub parts_of : List Firm → List (List ℕ)
parts_of rs = map (part_of rs) rs

-- the bytes of a place of the program in the memory that its scope makes
abbrev pub fill_of : List Firm → List Meaning → Meaning → List ℕ
fill_of rs gs g = read (relocated (layered (all_pieces (loaded_objects (slots_of rs) (originals_of rs) (objects_of rs)))) gs) g.start g.size

abbrev pub is_program_place : Meaning → Bool
is_program_place g = g.member == 0

-- the bytes of all its places, one after the other
unfoldable pub flat_of : List Firm → List Meaning → List ℕ
flat_of rs gs = concat (map (fill_of rs gs) (filter is_program_place gs))

-- its own places' bytes, and the conflict rows
abbrev pub program_by : List Firm → List Meaning → List ConflictRow → Option (List ℕ)
program_by [] gs rows = None
program_by (r ∷ rs) gs rows = Some (program_with r.member.original (list_of rs) (flat_of (r ∷ rs) gs) rows (version_of r.member.version))

abbrev pub with_rows : {E F : Type 0} → List Firm → Result (List Meaning) E → Result (List ConflictRow) F → Option (List ℕ)
with_rows rs (Err e) rows = None
with_rows rs (Ok gs) (Err e) = None
with_rows rs (Ok gs) (Ok rows) = program_by rs gs rows

abbrev pub with_modules : {E : Type 0} → List Firm → Result (List Module) E → Option (List ℕ)
with_modules rs (Err e) = None
with_modules rs (Ok modules) =
    with_rows rs (meanings (objects_of rs) (slots_of rs) modules) (conflicts (objects_of rs) (parts_of rs) (slots_of rs) modules)

-- by the members of its walk, it first, where its thread-local storage and its links have no refusal
unfoldable pub program_file : List Firm → Option (List ℕ)
program_file rs = with_modules rs (offsets (map (λ o. o.tls) (objects_of rs)))

-- ---- the whole

-- a file is no longer than a folder holds
abbrev pub stored : Option (List ℕ) → Option (List ℕ)
stored None = None
stored (Some file) = when (nat_le (length file) STORED) (Some file)

abbrev pub file_of : List Firm → Option (List ℕ)
file_of [] = None
file_of (r ∷ rs) = if is_library r.object.kind then Some (library_file (r ∷ rs)) else program_file (r ∷ rs)

abbrev pub of_firm : Option (List Firm) → Option (List ℕ)
of_firm None = None
of_firm (Some rs) = when (are_set rs) (stored (file_of rs))

-- the one file that the members of a walk prelink for its first name, where there is one
unfoldable pub prelinked : List Member → Option (List ℕ)
prelinked ms = of_firm (all_firm ms)
