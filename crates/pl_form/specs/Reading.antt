-- What is read of a file that may be a form: all that it would be made of. Whether it is that form is told by building it.
use Rattle.std.specs.Prelude.{◌≡◌, ◌<◌, ◌≤◌, Vec, ℕ, ◌+◌, ◌-◌, ◌*◌, ◌%◌, ◌^◌, Bool, true, false, not, ◌&&◌, ◌==◌, nat_le, nat_lt, List, [], ◌∷◌, ◌++◌, length, Option, Some, None, Result, Ok, Err, if◌then◌else◌}
use Rattle.std.specs.Result.{is_ok}
use Rattle.std.specs.declared.alloc.Global.{Global}
use Rattle.std.specs.Str.{bytes_eq}
use Rattle.pl_base.specs.Bytes.{part, word64}
use Rattle.pl_base.specs.Windows.{within}
use Rattle.pl_elf.specs.Headers.{header, section}
use Rattle.pl_elf.specs.Kinds.{is_library, is_static}
use Rattle.pl_elf.specs.declared.segment.Segment.{Segment}
use Rattle.pl_lists.specs.Conflicts.{are_conflicts}
use Rattle.pl_lists.specs.Lists.{is_list, list_strings}
use Rattle.pl_lists.specs.Reading.{list_of, conflicts_of}
use Rattle.pl_lists.specs.declared.conflict_row.ConflictRow.{ConflictRow}
use Rattle.pl_lists.specs.declared.fault.ListFault.{ListFault}
use Rattle.pl_lists.specs.declared.list_row.ListRow.{ListRow}
use Rattle.pl_object.specs.PlaceClauses.{last_load}
use Rattle.pl_object.specs.Reads.{reads}
use Rattle.pl_object.specs.declared.object.Object.{Object}
use Rattle.pl_object.specs.declared.refusal.Refusal.{Refusal}
use Rattle.pl_form.specs.Back.{◌>>=◌, when, section_part, find_undo, front_of, restored, wanted}
use Rattle.pl_form.specs.Found.{reader, ss_of, d_of, tags_of, ps_of}
use Rattle.pl_form.specs.declared.parts.Spot.{Spot}
use Rattle.pl_undo.specs.declared.undo.Undo.{Undo}
use Rattle.pl_form.specs.Faults.{form_fault, no_region, IsFirm}
use Rattle.pl_form.specs.Marks.{has_mark, form_with, IsFormOf}
use Rattle.pl_form.specs.Originals.{IsLayoutOf}
use Rattle.pl_form.specs.Words.{checksum_of}
use Rattle.pl_form.specs.declared.constants.TheConstants.{STORED}
use Rattle.pl_form.specs.declared.file.Marked.{Marked}
use Rattle.pl_form.specs.declared.layout.Layout.{Layout}
use Rattle.pl_form.specs.declared.read.Contents.{Contents}
use Rattle.pl_form.specs.declared.read.FileParts.{FileParts}
use Rattle.pl_form.specs.declared.read.Lists.{Lists}
use Rattle.pl_form.specs.declared.version.Version.{Version}
use Rattle.pl_form.specs.declared.version.Version.TheVariants.{One, Two}

-- ---- the original

-- whether an object has no form fault other than InRegion
abbrev pub has_form : Object → Bool
has_form x = not (is_static x.kind) && is_ok (form_fault x no_region)

-- and its file no mark
abbrev pub is_firm : List ℕ → Object → Bool
is_firm o x = has_form x && not (has_mark o)

abbrev pub firm_if : List ℕ → Result Object Refusal → Option Object
firm_if o (Ok x) = when (is_firm o x) (Some x)
firm_if o (Err refusal) = None

-- an original has fewer than 2^32 bytes
unfoldable pub firm_object : List ℕ → Option Object
firm_object o = when (nat_lt (length o) (2 ^ 32)) (firm_if o (reads o))

-- the same as facts
pub record IsOwn (o : List ℕ) (x : Object) : Type 0 where
  pub firm : IsFirm o x
  pub plain : has_mark o ≡ false

abbrev pub OwnIfAny : List ℕ → Option Object → Type 0
OwnIfAny o None = Unit {0}
OwnIfAny o (Some x) = IsOwn o x

-- ---- the lists

-- the bytes of the section so many rows before the end of the table
abbrev pub section_from_end : ℕ → List ℕ → List ℕ
section_from_end back file = section_part (section file (header file) ((header file).shnum - back)) file

abbrev pub spelled : {X : Type 0} → Result X ListFault → Option X
spelled (Ok x) = Some x
spelled (Err fault) = None

abbrev pub with_conflicts : List ListRow → List ConflictRow → Lists
with_conflicts list conflicts = record { list = list; conflicts = conflicts }

abbrev pub library_lists : List ℕ → Option Lists
library_lists file = spelled (list_of (section_from_end 3 file) (section_from_end 4 file)) >>= λ list. Some (with_conflicts list [])

abbrev pub program_lists : List ℕ → Option Lists
program_lists file =
    spelled (list_of (section_from_end 4 file) (section_from_end 5 file)) >>= λ list.
    spelled (conflicts_of (section_from_end 3 file)) >>= λ conflicts. Some (with_conflicts list conflicts)

unfoldable pub lists_in : Bool → List ℕ → Option Lists
lists_in library file = if library then library_lists file else program_lists file

-- rows that a grammar spells, behind strings of so many bytes
pub record IsSpelledList (size : ℕ) (list : List ListRow) : Type 0 where
  pub names : length (list_strings list) ≤ size
  pub spelled : is_list list ≡ true

abbrev pub ListIfAny : ℕ → Option (List ListRow) → Type 0
ListIfAny size None = Unit {0}
ListIfAny size (Some list) = IsSpelledList size list

abbrev pub ConflictsIfAny : Option (List ConflictRow) → Type 0
ConflictsIfAny None = Unit {0}
ConflictsIfAny (Some conflicts) = are_conflicts conflicts ≡ true

-- the lists of a file
pub record AreSpelled (library : Bool) (file : List ℕ) (l : Lists) : Type 0 where
  pub names : length (list_strings l.list) ≤ length file
  pub list : is_list l.list ≡ true
  pub conflicts : are_conflicts l.conflicts ≡ true
  pub none : library ≡ true → l.conflicts ≡ []

abbrev pub SpelledIfAny : Bool → List ℕ → Option Lists → Type 0
SpelledIfAny library file None = Unit {0}
SpelledIfAny library file (Some l) = AreSpelled library file l

-- ---- the bytes at the places

-- those in the file, and those in the zeros of the last PT_LOAD
abbrev pub standing : List Spot → List ℕ → List ℕ → List ℕ
standing [] front zeros = []
standing (p ∷ ps) front zeros = part p.at p.size front ++ (part p.behind p.hidden zeros ++ standing ps front zeros)

-- the zeros of the last PT_LOAD of an original, as they stand in a file
abbrev pub zeros_behind : Option Segment → List ℕ → List ℕ
zeros_behind None file = []
zeros_behind (Some last) file = part (last.offset + last.filesz) (last.memsz - last.filesz) file

abbrev pub places_in : List ℕ → List ℕ → List ℕ → List ℕ
places_in o front file = standing (ps_of o) front (zeros_behind (last_load (ss_of o)) file)

-- ---- the whole

abbrev pub version_in : Option (List ℕ) → Version
version_in None = One
version_in (Some digest) = Two

-- the digest that an undo section keeps, if there is one
abbrev pub digest_kept : Option Undo → Option (List ℕ)
digest_kept None = None
digest_kept (Some u) = u.digest

-- the value of the first entry behind the tags
abbrev pub stamp_in : List ℕ → List ℕ → ℕ
stamp_in o front = word64 (16 * length (tags_of o) + 8) (within (d_of o) front) % 2 ^ 32

-- the same by a layout
abbrev pub stamp_behind : Layout → List ℕ → ℕ
stamp_behind l front = word64 (16 * l.tags + 8) (within l.dynamic front) % 2 ^ 32

-- that of a library, 0 for a program
abbrev pub stamp_for : Object → List ℕ → List ℕ → ℕ
stamp_for x o front = if is_library x.kind then stamp_in o front else 0

-- all that a file would be made of that has this stamp
abbrev pub candidate_with : ℕ → Undo → List ℕ → Object → Lists → Marked
candidate_with stamp u o x l = record {
  object = x;
  original = o;
  slot = u.slot;
  stamp = stamp;
  checksum = if is_library x.kind then checksum_of o else 0;
  list = l.list;
  conflicts = l.conflicts;
  version = version_in u.digest;
}

-- all that a file would be made of whose front is this
unfoldable pub candidate : List ℕ → Undo → List ℕ → Object → Lists → Marked
candidate front u o x l = candidate_with (stamp_for x o front) u o x l

-- whether the slot is one that such an object may have
unfoldable pub is_placed : Marked → Bool
is_placed m =
    if is_library m.object.kind then m.slot % 2 == 0 && m.slot % m.object.align == 0 && nat_le (m.slot + m.object.span) (2 ^ 47)
    else m.slot == 0

-- whether there is a byte for each byte of a place, and the slot is such a one
abbrev pub fits : Marked → List Spot → ℕ → Bool
fits m spots size = size == wanted spots && is_placed m

-- whether a file is the form with these bytes at the places
unfoldable pub is_form : List ℕ → Marked → List ℕ → Bool
is_form file m flat = fits m (ps_of m.original) (length flat) && bytes_eq file (form_with m flat)

abbrev pub checked : List ℕ → Undo → Marked → Option Marked
checked file u m = when (is_form file m (places_in m.original (front_of u file) file)) (Some m)

-- with its original
unfoldable pub marked_by : List ℕ → Undo → List ℕ → Option Marked
marked_by file u o = do
  x ← firm_object o
  l ← lists_in (is_library x.kind) file
  checked file u (candidate (front_of u file) u o x l)

unfoldable pub marked_of : List ℕ → Option Marked
marked_of file = when (nat_le (length file) STORED) (find_undo file >>= λ u. restored reader u file >>= marked_by file u)

-- ---- answers

-- all but the slot of a form's mark
pub record IsMade (m : Marked) : Type 0 where
  pub firm : IsFirm m.original m.object
  pub plain : has_mark m.original ≡ false
  pub list : is_list m.list ≡ true
  pub names : length (list_strings m.list) ≤ STORED
  pub conflicts : are_conflicts m.conflicts ≡ true
  pub none : is_library m.object.kind ≡ true → m.conflicts ≡ []
  pub stamp : m.stamp < 2 ^ 32
  pub checksum : is_library m.object.kind ≡ true → m.checksum ≡ checksum_of m.original
  pub zeros : is_library m.object.kind ≡ false → (m.stamp ≡ 0) × (m.checksum ≡ 0)

-- a form of at most so many bytes as a file may have, if it is one
abbrev pub StoredIfAny : List ℕ → Option (Vec ℕ Global) → Type 0
StoredIfAny form None = STORED < length form
StoredIfAny form (Some v) = v.items ≡ form

-- that of all that a file is made of, with these bytes at the places
abbrev pub FormWithIfAny : Marked → List ℕ → Option (Vec ℕ Global) → Type 0
FormWithIfAny m flat form = StoredIfAny (form_with m flat) form

abbrev pub FormIfAny : List ℕ → Option Marked → Type 0
FormIfAny file None = Unit {0}
FormIfAny file (Some m) = IsFormOf file m

-- what is read of a file for the object of an original
pub record AreContentsOf (file : List ℕ) (u : Undo) (o : List ℕ) (x : Object) (p : Contents) : Type 0 where
  pub lists : AreSpelled (is_library x.kind) file p.lists
  pub layout : IsLayoutOf o p.standing.layout
  pub stamp : p.standing.stamp ≡ stamp_for x o (front_of u file)
  pub flat : p.standing.flat.items ≡ places_in o (front_of u file) file
  pub found : Some p.lists ≡ lists_in (is_library x.kind) file

abbrev pub ContentsIfAny : List ℕ → Undo → List ℕ → Object → Option Contents → Type 0
ContentsIfAny file u o x None = None ≡ lists_in (is_library x.kind) file
ContentsIfAny file u o x (Some p) = AreContentsOf file u o x p

-- what is read of a file for an original, by which it is told whether the file is a form of it
pub record ArePartsOf (file : List ℕ) (u : Undo) (o : List ℕ) (p : FileParts) : Type 0 where
  pub own : IsOwn o p.object
  pub contents : AreContentsOf file u o p.object p.contents
  pub by : marked_by file u o ≡ checked file u (candidate (front_of u file) u o p.object p.contents.lists)

abbrev pub PartsIfAny : List ℕ → Undo → List ℕ → Option FileParts → Type 0
PartsIfAny file u o None = None ≡ marked_by file u o
PartsIfAny file u o (Some p) = ArePartsOf file u o p
