-- The format of prelinked files, and the rule that their folder keeps.
use Rattle.std.specs.Prelude.{◌≡◌, ℕ, Bool, true, ◌&&◌, nat_eq, nat_lt, List, [], ◌∷◌, map, drop, length, Option, Some, Result, Ok, Err}
use Rattle.std.specs.Option.{option_map}
use Rattle.std.specs.Cmp.Lexicographic.{pointwise}
use Rattle.pl_base.specs.Answers.{because, unless}
use Rattle.pl_base.specs.Bytes.{IsBytes}
use Rattle.pl_form.specs.Files.{marked_in, original_in}
use Rattle.pl_form.specs.Marks.{has_mark, IsFormOf}
use Rattle.pl_form.specs.Words.{checksum_of}
use Rattle.pl_form.specs.declared.constants.TheConstants.{STORED}
use Rattle.pl_form.specs.declared.file.Marked.{Marked}
use Rattle.pl_form.specs.declared.version.Version.{Version}
use Rattle.pl_form.specs.declared.version.Version.TheVariants.{One, Two}
use Rattle.pl_lists.specs.declared.list_row.ListRow.{ListRow}
use Rattle.pl_object.specs.Reads.{reads}
use Rattle.pl_object.specs.declared.object.Object.{Object}
use Rattle.pl_object.specs.declared.refusal.Refusal.{Refusal}
use Rattle.pl_scope.specs.Members.{others, has}
use Rattle.pl_scope.specs.Walk.{Walked}
use Rattle.pl_scope.specs.declared.fault.WalkFault.{WalkFault}
use Rattle.law_sound.specs.Rule as sound
use Rattle.law_sound.specs.Rule.{Format, IsFormat, Files, Mark, Member, Row, slot_of, mark_at, matches, members, prelinked_in, walk_in}
use Rattle.pl_conflict.specs.Prelinked.{prelinked}

-- ---- marks

abbrev pub number_of : Version → ℕ
number_of One = 1
number_of Two = 2

abbrev pub row_of_list : ListRow → Row
row_of_list row = record { name = row.name; stamp = row.stamp; checksum = row.checksum }

abbrev pub mark_of : Marked → Mark
mark_of m = record { version = number_of m.version; slot = m.slot; stamp = m.stamp; list = map row_of_list m.list }

-- what a prelinked file tells of itself
unfoldable pub mark_in : List ℕ → Option Mark
mark_in file = option_map mark_of (marked_in file)

-- ---- the format

-- how a command tells why a name of a walk has no object, in the order in which the causes count, and what refuses a walk
pub record Causes (E : Type 0) : Type 0 where
  pub absent : List ℕ → E
  pub large : List ℕ → E
  pub bad_mark : List ℕ → E
  pub refused : List ℕ → Refusal → E
  pub walk : WalkFault → E

-- the object of a name's original: a file with a mark that is no form is its own original, and is refused
unfoldable pub read_original : {E : Type 0} → Causes E → List ℕ → List ℕ → Result Object E
read_original causes n o = unless (nat_lt STORED (length o)) (causes.large n) (unless (has_mark o) (causes.bad_mark n) (because (causes.refused n) (reads o)))

-- marks are made in version 2
abbrev pub format : {E : Type 0} → Causes E → Format E
format causes = record {
  original = original_in;
  mark = mark_in;
  reads = read_original causes;
  absent = causes.absent;
  walks = causes.walk;
  checksum = checksum_of;
  version = 2;
  prelinked = prelinked;
}

-- ---- the rule

-- where a name matches, its file and those of its walk are the prelinked files of the folder's originals, slots and stamps
abbrev pub Rule : {E : Type 0} → Causes E → Files → Type 0
Rule causes files = sound.Rule (format causes) files

-- the same, at one name
abbrev pub RuleAt : {E : Type 0} → Causes E → Files → List ℕ → Type 0
RuleAt causes files n = (m : List ℕ) → matches (format causes) files n ≡ true → has (members (format causes) files n) m ≡ true → prelinked_in (format causes) files m ≡ files m

-- ---- the fast path

abbrev pub slot_at : {E : Type 0} → Causes E → Files → List ℕ → ℕ
slot_at causes files m = slot_of (mark_at (format causes) (files m))

-- the names of a walk after the first
abbrev pub others_in : {E : Type 0} → Result Walked E → List (List ℕ)
others_in (Ok walked) = others walked
others_in (Err e) = []

abbrev pub libraries : {E : Type 0} → Causes E → Files → List ℕ → List (List ℕ)
libraries causes files n = others_in (walk_in (format causes) files n)

-- a program matches, and each library of its walk is placed at the slot that its file bears
unfoldable pub is_fast : {E : Type 0} → Causes E → Files → List ℕ → List ℕ → Bool
is_fast causes files program places =
    matches (format causes) files program && pointwise nat_eq (drop 1 places) (map (slot_at causes files) (libraries causes files program))

-- ---- laws

-- the row that a list has of a member
abbrev pub row_for : Member → Row
row_for other = record { name = other.name; stamp = other.stamp; checksum = checksum_of other.original }

-- the mark that a member gets, with the rows of the others
abbrev pub mark_for : Member → List Member → Mark
mark_for m ms = record { version = m.version; slot = m.slot; stamp = m.stamp; list = map row_for ms }

-- what the members of a walk prelink is a form of the first's original, with its mark
pub record IsPrelinkedForm (m : Member) (ms : List Member) (file : List ℕ) : Type 0 where
  pub bytes : IsBytes file
  pub made : Marked
  pub form : IsFormOf file made
  pub original : made.original ≡ m.original
  pub mark : mark_of made ≡ mark_for m ms

abbrev pub PrelinkedAreForms : Type 0
PrelinkedAreForms = (m : Member) (ms : List Member) (file : List ℕ) → prelinked (m ∷ ms) ≡ Some file → IsPrelinkedForm m ms file

-- what every format keeps
abbrev pub FormatIsKept : Type 0 → Type 0
FormatIsKept E = (causes : Causes E) → IsFormat (format causes)
