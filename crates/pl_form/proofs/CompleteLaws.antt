-- What is read of a form is all that it was made of.
use Rattle.std.proofs.Common.{◌≡◌, ℕ, ◌-◌, ◌%◌, ◌^◌, ◌<◌, ◌≤◌, true, false, List, [], ◌∷◌, ◌++◌, length, drop, Option, Some, None, Ok, refl, sym, ap, subst, ◌∙◌, arith, inl, inr}
use Rattle.std.specs.Prelude.{◌⊎◌, is_some}
use Rattle.std.specs.Str.{bytes_eq}
use Rattle.std.proofs.lemmas.Bool.{le-leb, lt-ltb, eq-eqb, true≢false}
use Rattle.std.proofs.lemmas.List.{length-append, length-take, length-drop}
use Rattle.std.proofs.lemmas.Slice.Eq.{bytes_eq-Decides}
use Rattle.pl_elf.specs.Headers.{header, section}
use Rattle.pl_elf.specs.Kinds.{is_library}
use Rattle.pl_elf.specs.declared.section.Section.{Section}
use Rattle.pl_elf.specs.declared.segment.Segment.{Segment}
use Rattle.pl_lists.specs.Lists.{list_strings, list_bytes, is_list}
use Rattle.pl_lists.specs.Reading.{list_of, conflicts_of}
use Rattle.pl_lists.specs.declared.list_row.ListRow.{ListRow}
use Rattle.pl_lists.proofs.ConflictLaws.{is_read as conflicts_read}
use Rattle.pl_lists.proofs.ListLaws.{is_read}
use Rattle.pl_lists.proofs.WriteLaws.{is_list_of}
use Rattle.pl_object.specs.PlaceClauses.{last_load}
use Rattle.pl_object.specs.declared.object.Object.{Object}
use Rattle.pl_form.specs.Back.{section_part, find_undo, front_of, restored, back}
use Rattle.pl_form.specs.Forms as forms
use Rattle.pl_form.specs.Forms.{original_of, undo_part, planned}
use Rattle.pl_form.specs.Found.{reader, ss_of}
use Rattle.pl_form.specs.PartLaws.{FormsLibrary, FormsProgram, IsDigest}
use Rattle.pl_form.specs.Parts.{Original, table_at, library_plan, program_plan}
use Rattle.pl_form.specs.declared.parts.Extension.{Extension}
use Rattle.pl_form.specs.declared.parts.Listed.{Listed}
use Rattle.pl_form.proofs.FinalTheorem.{library_conditions, program_conditions}
use Rattle.pl_form.proofs.WholeTheorem.{library_undone, program_undone}
use Rattle.pl_undo.specs.declared.undo.Undo.{Undo}
use Rattle.sha2.proofs.Facts256.{length-sha256}
use Rattle.pl_form.specs.Faults.{IsFirm}
use Rattle.pl_form.specs.Library.{library_with}
use Rattle.pl_form.specs.Marks.{has_mark, form_with, IsFormOf, IsLibraryMark, IsProgramMark, FormsAreUndone, NoFormOfTwo}
use Rattle.pl_form.specs.Program.{last_index, extended}
use Rattle.pl_form.specs.Reading.{firm_object, section_from_end, lists_in, candidate, version_in, stamp_in, is_placed, is_form, checked, marked_by, marked_of, places_in}
use Rattle.pl_form.specs.Words.{listed, strings_of, extension_of, checksum_of, digest_in}
use Rattle.pl_form.specs.declared.constants.TheConstants.{STORED}
use Rattle.pl_form.specs.declared.file.Marked.{Marked}
use Rattle.pl_form.specs.declared.version.Version.{Version}
use Rattle.pl_form.specs.declared.version.Version.TheVariants.{One, Two}
use Rattle.pl_form.proofs.AlignLaws.{align_even, slot_even}
use Rattle.pl_form.proofs.FormWithLaws.{no_library}
use Rattle.pl_form.proofs.FormOf.{forms_library, forms_program}
use Rattle.pl_form.proofs.SomeLastLaws.{some_last}
use Rattle.pl_form.proofs.LibraryReadLaws.{ReadsLibrary, library_read}
use Rattle.pl_form.proofs.ProgramReadLaws.{ReadsProgram, program_read}
use Rattle.pl_form.proofs.SmallLaws.{table_below}

-- an original is found to be one
firm_found : (o : List ℕ) (x : Object) → IsFirm o x → has_mark o ≡ false → firm_object o ≡ Some x
unfolding firm_object
firm_found o x is plain = rw (lt-ltb (length o) (2 ^ 32) is.few, is.accepted, is.dynamic, is.firm, plain) refl

placed_library : (m : Marked) → IsLibraryMark m → m.slot % 2 ≡ 0 → is_placed m ≡ true
unfolding is_placed
placed_library m is even = rw (is.library, eq-eqb _ _ even, eq-eqb _ _ is.aligned, le-leb _ _ is.below) refl

placed_program : (m : Marked) → IsProgramMark m → is_placed m ≡ true
unfolding is_placed
placed_program m is = rw (is.program, eq-eqb _ _ is.slot) refl

placed : (m : Marked) → IsLibraryMark m ⊎ IsProgramMark m → m.slot % 2 ≡ 0 → is_placed m ≡ true
placed m (inl is) even = placed_library m is even
placed m (inr is) even = placed_program m is

same_bytes : (xs ys : List ℕ) → xs ≡ ys → bytes_eq xs ys ≡ true
same_bytes xs ys e = (bytes_eq-Decides xs ys).1 e

-- what is read of a file that is a form, part by part
pub record IsReadAs (file : List ℕ) (m : Marked) (flat : List ℕ) : Type 0 where
  pub undo : Undo
  pub found : find_undo file ≡ Some undo
  pub lists : lists_in (is_library m.object.kind) file ≡ Some (record { list = m.list; conflicts = m.conflicts })
  pub made : candidate (front_of undo file) undo m.original m.object (record { list = m.list; conflicts = m.conflicts }) ≡ m
  pub places : places_in m.original (front_of undo file) file ≡ flat

restored_by : (file o : List ℕ) (u : Undo) → find_undo file ≡ Some u → back reader file ≡ Some o → restored reader u file ≡ Some o
unfolding back
restored_by file o u found whole = rw found at whole

form_is : (file : List ℕ) (m : Marked) (f : IsFormOf file m) → m.slot % 2 ≡ 0 → is_form file m f.flat ≡ true
unfolding is_form
form_is file m f even = rw (eq-eqb _ _ f.filled, placed m f.mark even, same_bytes file (form_with m f.flat) f.is) refl

checked_is : (file : List ℕ) (u : Undo) (m : Marked) (f : IsFormOf file m) → m.slot % 2 ≡ 0 → places_in m.original (front_of u file) file ≡ f.flat → checked file u m ≡ Some m
checked_is file u m f even places = rw (places, form_is file m f even) refl

pub read_whole : (file : List ℕ) (m : Marked) (f : IsFormOf file m) → m.slot % 2 ≡ 0 → back reader file ≡ Some m.original → IsReadAs file m f.flat → marked_of file ≡ Some m
unfolding marked_of marked_by
read_whole file m f even undone is =
    rw (le-leb (length file) STORED f.small, is.found, restored_by file m.original is.undo is.found undone, firm_found m.original m.object f.firm f.plain, is.lists, is.made, checked_is file is.undo m f even is.places) refl

-- ---- both kinds

-- the same numbers make the same
same_mark : (m : Marked) (slot stamp checksum : ℕ) (version : Version) → slot ≡ m.slot → stamp ≡ m.stamp → checksum ≡ m.checksum → version ≡ m.version
    → record { object = m.object; original = m.original; slot = slot; stamp = stamp; checksum = checksum; list = m.list; conflicts = m.conflicts; version = version } ≡ m
same_mark m slot stamp checksum version a b c d = rw (a, b, c, d) refl

version_back : (version : Version) (o : List ℕ) → version_in (digest_in version o) ≡ version
version_back One o = refl
version_back Two o = refl

digest_size : (version : Version) (o : List ℕ) → IsDigest (digest_in version o)
digest_size One o = tt
digest_size Two o = length-sha256 o

listed_found : (before table strings : List ℕ) (list : List ListRow) → strings ≡ before ++ list_strings list → table ≡ list_bytes (length before) list → length strings < 2 ^ 32 → is_list list ≡ true → list_of table strings ≡ Ok list
listed_found before table strings list s t small spelled =
    is_read table strings list (is_list_of before table strings list (omega (arith, small, ap length s, length-append before (list_strings list))) t s spelled)

pub part_most : (s : Section) (file : List ℕ) → length (section_part s file) ≤ length file
part_most s file = omega (arith, length-take s.size (drop s.offset file), length-drop s.offset file)

-- ---- a library

library_made : (m : Marked) (u : Undo) (front : List ℕ) → IsLibraryMark m → u.slot ≡ m.slot → u.digest ≡ digest_in m.version m.original → stamp_in m.original front ≡ m.stamp
    → candidate front u m.original m.object (record { list = m.list; conflicts = m.conflicts }) ≡ m
unfolding candidate
library_made m u front is slot digest stamp =
    same_mark m _ _ _ _ slot (rw is.library stamp) (rw is.library (sym is.checksum)) (ap version_in digest ∙ version_back m.version m.original)

library_reads : (file : List ℕ) (m : Marked) (flat : List ℕ) → IsLibraryMark m → is_list m.list ≡ true → length file < 2 ^ 32 → ReadsLibrary file m.original m.slot m.stamp (listed m.list) flat (digest_in m.version m.original) → IsReadAs file m flat
unfolding lists_in
library_reads file m flat is spelled small r =
    let size : length (section_from_end 4 file) < 2 ^ 32 = omega (arith, small, part_most (section file (header file) ((header file).shnum - 4)) file) in
    let list : list_of (section_from_end 3 file) (section_from_end 4 file) ≡ Ok m.list = listed_found (0 ∷ []) (section_from_end 3 file) (section_from_end 4 file) m.list r.strings r.rows size spelled in
    let none : m.conflicts ≡ [] = is.conflicts in
    record {
      undo = r.undo;
      found = r.found;
      lists = rw (is.library, list, none) refl;
      made = library_made m r.undo (front_of r.undo file) is r.slot_is r.digest_is r.stamp_is;
      places = r.places;
    }

pub library_file : (file : List ℕ) (m : Marked) (f : IsFormOf file m) → IsLibraryMark m → file ≡ forms.form_of_library (original_of m.original) m.slot m.stamp (checksum_of m.original) (listed m.list) f.flat (digest_in m.version m.original)
unfolding form_with library_with
library_file file m f is = rw is.library at f.is

library_small : (o : Original) (slot stamp checksum : ℕ) (l : Listed) (flat : List ℕ) (digest : Option (List ℕ)) → length (forms.form_of_library o slot stamp checksum l flat digest) ≤ STORED
    → table_at (library_plan o slot stamp checksum l) o.bytes (length (undo_part (library_plan o slot stamp checksum l) o digest)) < 2 ^ 32
unfolding planned
library_small o slot stamp checksum l flat digest small = omega (arith, small, table_below (library_plan o slot stamp checksum l) o flat (undo_part (library_plan o slot stamp checksum l) o digest))

pub library_forms : (file : List ℕ) (m : Marked) (f : IsFormOf file m) → IsLibraryMark m → FormsLibrary m.original m.object m.slot m.stamp (checksum_of m.original) (listed m.list) f.flat (digest_in m.version m.original)
library_forms file m f is =
    let same = library_file file m f is in
    let short : length (forms.form_of_library (original_of m.original) m.slot m.stamp (checksum_of m.original) (listed m.list) f.flat (digest_in m.version m.original)) ≤ STORED = subst (λ (xs : List ℕ). length xs ≤ STORED) same f.small in
    forms_library m.original m.object m.slot m.stamp (checksum_of m.original) (listed m.list) f.flat (digest_in m.version m.original) f.firm is.library f.filled (digest_size m.version m.original) (omega (arith, is.below))
    (slot_even m.slot m.object.align (align_even m.original m.object f.firm.accepted) is.aligned)
    (library_small (original_of m.original) m.slot m.stamp (checksum_of m.original) (listed m.list) f.flat (digest_in m.version m.original) short)

library_back : (file : List ℕ) (m : Marked) (f : IsFormOf file m) → IsLibraryMark m → back reader file ≡ Some m.original
library_back file m f is =
    let o = m.original in
    ap (back reader) (library_file file m f is)
    ∙ library_undone o m.slot m.stamp (checksum_of o) (listed m.list) f.flat (digest_in m.version o) (library_conditions o m.object m.slot m.stamp (checksum_of o) (listed m.list) f.flat (digest_in m.version o) (library_forms file m f is))

library_whole : (file : List ℕ) (m : Marked) (f : IsFormOf file m) → IsLibraryMark m → marked_of file ≡ Some m
library_whole file m f is =
    let same = library_file file m f is in
    let forms = library_forms file m f is in
    let o = m.original in
    let reads = subst (λ (xs : List ℕ). ReadsLibrary xs o m.slot m.stamp (listed m.list) f.flat (digest_in m.version o)) (sym same) (library_read o m.object m.slot m.stamp (checksum_of o) (listed m.list) f.flat (digest_in m.version o) forms is.stamp) in
    read_whole file m f forms.even (library_back file m f is) (library_reads file m f.flat is f.list (omega (arith, f.small)) reads)

-- ---- a program

program_made : (m : Marked) (u : Undo) (front : List ℕ) → IsProgramMark m → u.slot ≡ 0 → u.digest ≡ digest_in m.version m.original
    → candidate front u m.original m.object (record { list = m.list; conflicts = m.conflicts }) ≡ m
unfolding candidate
program_made m u front is slot digest =
    same_mark m _ _ _ _ (slot ∙ sym is.slot) (rw is.program (sym is.stamp)) (rw is.program (sym is.checksum)) (ap version_in digest ∙ version_back m.version m.original)

program_reads : (file : List ℕ) (m : Marked) (flat : List ℕ) → IsProgramMark m → is_list m.list ≡ true → length file < 2 ^ 32 → ReadsProgram file m.original (extension_of m.original m.list m.conflicts) flat (digest_in m.version m.original) → IsReadAs file m flat
unfolding lists_in
program_reads file m flat is spelled small r =
    let size : length (section_from_end 5 file) < 2 ^ 32 = omega (arith, small, part_most (section file (header file) ((header file).shnum - 5)) file) in
    let list : list_of (section_from_end 4 file) (section_from_end 5 file) ≡ Ok m.list = listed_found (strings_of m.original) (section_from_end 4 file) (section_from_end 5 file) m.list r.strings r.rows size spelled in
    let conflicts : conflicts_of (section_from_end 3 file) ≡ Ok m.conflicts = conflicts_read (section_from_end 3 file) m.conflicts (record { in_table = r.conflicts; is_spelled = is.conflicts }) in
    record {
      undo = r.undo;
      found = r.found;
      lists = rw (is.program, list, conflicts) refl;
      made = program_made m r.undo (front_of r.undo file) is r.slot_is r.digest_is;
      places = r.places;
    }

pub program_file : (file : List ℕ) (m : Marked) (f : IsFormOf file m) (last : Segment) → IsProgramMark m → last_load (ss_of m.original) ≡ Some last
    → file ≡ forms.form_of_program (original_of m.original) (last_index (ss_of m.original)) last (extension_of m.original m.list m.conflicts) f.flat (digest_in m.version m.original)
unfolding form_with extended
program_file file m f last is at = rw (is.program, at) at f.is

program_small : (o : Original) (index : ℕ) (last : Segment) (e : Extension) (flat : List ℕ) (digest : Option (List ℕ)) → length (forms.form_of_program o index last e flat digest) ≤ STORED
    → table_at (program_plan o index last flat e) o.bytes (length (undo_part (program_plan o index last flat e) o digest)) < 2 ^ 32
unfolding planned
program_small o index last e flat digest small = omega (arith, small, table_below (program_plan o index last flat e) o flat (undo_part (program_plan o index last flat e) o digest))

pub program_forms : (file : List ℕ) (m : Marked) (f : IsFormOf file m) (last : Segment) → IsProgramMark m → last_load (ss_of m.original) ≡ Some last
    → FormsProgram m.original m.object (last_index (ss_of m.original)) last (extension_of m.original m.list m.conflicts) f.flat (digest_in m.version m.original)
program_forms file m f last is at =
    let o = m.original in
    let e = extension_of o m.list m.conflicts in
    let same = program_file file m f last is at in
    let short : length (forms.form_of_program (original_of o) (last_index (ss_of o)) last e f.flat (digest_in m.version o)) ≤ STORED = subst (λ (xs : List ℕ). length xs ≤ STORED) same f.small in
    forms_program o m.object last e f.flat (digest_in m.version o) f.firm (no_library m.object.kind is.program f.firm.dynamic) at f.filled (digest_size m.version o)
    (program_small (original_of o) (last_index (ss_of o)) last e f.flat (digest_in m.version o) short)

program_back : (file : List ℕ) (m : Marked) (f : IsFormOf file m) (last : Segment) → IsProgramMark m → last_load (ss_of m.original) ≡ Some last → back reader file ≡ Some m.original
program_back file m f last is at =
    let o = m.original in
    let e = extension_of o m.list m.conflicts in
    let i = last_index (ss_of o) in
    ap (back reader) (program_file file m f last is at) ∙ program_undone o i last e f.flat (digest_in m.version o) (program_conditions o m.object i last e f.flat (digest_in m.version o) (program_forms file m f last is at))

program_at : (file : List ℕ) (m : Marked) (f : IsFormOf file m) (last : Segment) → IsProgramMark m → last_load (ss_of m.original) ≡ Some last → marked_of file ≡ Some m
program_at file m f last is at =
    let o = m.original in
    let e = extension_of o m.list m.conflicts in
    let same = program_file file m f last is at in
    let reads = subst (λ (xs : List ℕ). ReadsProgram xs o e f.flat (digest_in m.version o)) (sym same) (program_read o m.object (last_index (ss_of o)) last e f.flat (digest_in m.version o) (program_forms file m f last is at)) in
    read_whole file m f (omega (arith, is.slot)) (program_back file m f last is at) (program_reads file m f.flat is f.list (omega (arith, f.small)) reads)

by_last : (found : Option Segment) (P : Type 0) → is_some found ≡ true → ((last : Segment) → found ≡ Some last → P) → P
by_last None P some next = absurd (true≢false (sym some))
by_last (Some last) P some next = next last refl

-- an accepted original has a last PT_LOAD
pub with_last : (file : List ℕ) (m : Marked) (f : IsFormOf file m) (P : Type 0) → ((last : Segment) → last_load (ss_of m.original) ≡ Some last → P) → P
with_last file m f P next =
    let found = last_load (ss_of m.original) in
    by_last found P (some_last m.original m.object f.firm.accepted) next

-- every form is read whole
pub complete : (file : List ℕ) (m : Marked) → IsFormOf file m → marked_of file ≡ Some m
complete file m f = elim f.mark [
  | inl is ↦ library_whole file m f is
  | inr is ↦ with_last file m f (marked_of file ≡ Some m) (λ last at. program_at file m f last is at)
]

-- and its original comes back
pub undone : FormsAreUndone
undone file m f = elim f.mark [
  | inl is ↦ library_back file m f is
  | inr is ↦ with_last file m f (back reader file ≡ Some m.original) (λ last at. program_back file m f last is at)
]

same_value : (m n : Marked) → ◌≡◌ {A = Option Marked} (Some m) (Some n) → m ≡ n
same_value m n e = cc

pub no_two : NoFormOfTwo
no_two file m n f g = same_value m n (sym (complete file m f) ∙ complete file n g)
