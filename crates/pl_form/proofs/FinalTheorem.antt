-- From the acceptance of a file to Back of its form.
use Rattle.std.proofs.Common.{[], ◌∷◌, ◌≡◌, ℕ, ◌+◌, ◌<◌, ◌≤◌, Bool, true, false, List, length, Option, Result, Ok, sym, subst, ap, ◌∙◌, arith, inl, inr}
use Rattle.std.specs.Prelude.{◌||◌, ◌&&◌, ◌==◌, not, nat_lt, nat_le}
use Rattle.std.specs.List.{list_any}
use Rattle.std.specs.Result.{is_ok}
use Rattle.std.proofs.lemmas.Bool.{cases_Bool, or_parts, ltb-false, eqb-true, true≢false}
use Rattle.pl_base.proofs.AnswerLaws.{refuse_none}
use Rattle.pl_elf.specs.Headers.{header, segments, sections, is_load}
use Rattle.pl_elf.specs.Clauses as elf
use Rattle.pl_elf.specs.declared.header.Header.{Header}
use Rattle.pl_elf.specs.declared.section.Section.{Section}
use Rattle.pl_elf.specs.declared.fault.HeaderFault.{HeaderFault}
use Rattle.pl_base.specs.Strings.{has_end}
use Rattle.pl_object.specs.Reads.{reads}
use Rattle.pl_object.specs.declared.object.Object.{Object}
use Rattle.pl_object.proofs.AcceptedLaws.{read_holds}
use Rattle.std.proofs.Common.{get_or}
use Rattle.pl_form.specs.PartLaws.{FormsLibrary, FormsProgram, is_stray, FormsGiveOriginals, NoFormOfTwoOriginals}
use Rattle.pl_form.specs.declared.parts.Extension.{Extension}
use Rattle.pl_form.specs.declared.parts.Listed.{Listed}
use Rattle.pl_form.specs.Back.{back}
use Rattle.pl_form.specs.Found.{reader}
use Rattle.pl_form.proofs.FileTheorem.{one_original}
use Rattle.pl_form.proofs.LoadFacts.{last_is}
use Rattle.pl_form.proofs.ReaderLaws.{IsAccepted}
use Rattle.pl_form.proofs.AcceptedIs.{reads_accepted}
use Rattle.pl_elf.specs.declared.fault.HeaderFault.TheVariants as fault
use Rattle.pl_form.proofs.WholeTheorem.{IsLibrary, IsProgramForm, library_undone, program_undone}
use Rattle.pl_form.specs.Found.{ss_of}
use Rattle.pl_form.proofs.KindLaws.{segment_count}
use Rattle.pl_form.proofs.PlaceByteLaws.{none_of_loads, not_any_at}
use Rattle.pl_elf.proofs.AcceptedLaws.{loads_accepted, load_fits}
use Rattle.pl_elf.specs.declared.segment.Segment.{Segment}

-- clause 7
few_by : (count : ℕ) (a c d : Bool) → (not (count == 0) && (a || nat_lt 65000 count || c || d)) ≡ false → count ≤ 65000
few_by count a c d e = elim (cases_Bool (count == 0)) [
  | inl none ↦ let is = eqb-true count 0 none in omega (arith, is)
  | inr some ↦
      let p = or_parts (a || nat_lt 65000 count || c) d (rw some at e) in
      let q = or_parts (a || nat_lt 65000 count) c p.0 in
      ltb-false 65000 count (or_parts a (nat_lt 65000 count) q.0).1
]

few_sections : (h : Header) (ss : List Section) (bytes : List ℕ) → elf.bad_section bytes h ss ≡ false → h.shnum ≤ 65000
unfolding elf.bad_section
few_sections h ss bytes e = few_by h.shnum (not (h.shentsize == 64)) (nat_le h.shnum h.shstrndx) (list_any (λ s. not (has_end s.name (elf.names bytes h))) ss) e

abbrev tests : List ℕ → List (Bool × HeaderFault)
tests bytes = (
    (elf.not_elf bytes, fault.NotElf) ∷ (elf.other_class bytes, fault.Class) ∷ (elf.other_machine (header bytes), fault.Machine) ∷ (elf.other_kind bytes (header bytes), fault.Kind)
    ∷ (elf.truncated bytes (header bytes), fault.Truncated) ∷ (elf.bad_segment (header bytes) (segments bytes (header bytes)), fault.BadSegment)
    ∷ (elf.bad_section bytes (header bytes) (sections bytes (header bytes)), fault.BadSection) ∷ (elf.no_sections (header bytes), fault.NoSections) ∷ [])

few : (bytes : List ℕ) (h : Header) → elf.read bytes ≡ Ok h → (header bytes).shnum ≤ 65000
unfolding elf.read
few bytes h e =
    let none = refuse_none (tests bytes) (Ok (header bytes)) (ap (λ (r : Result Header HeaderFault). is_ok r) e) in
    let p1 = or_parts (elf.not_elf bytes) _ none in
    let p2 = or_parts (elf.other_class bytes) _ p1.1 in
    let p3 = or_parts (elf.other_machine (header bytes)) _ p2.1 in
    let p4 = or_parts (elf.other_kind bytes (header bytes)) _ p3.1 in
    let p5 = or_parts (elf.truncated bytes (header bytes)) _ p4.1 in
    let p6 = or_parts (elf.bad_segment (header bytes) (segments bytes (header bytes))) _ p5.1 in
    few_sections (header bytes) (sections bytes (header bytes)) bytes (or_parts (elf.bad_section bytes (header bytes) (sections bytes (header bytes))) _ p6.1).0

reads_few : (o : List ℕ) (object : Object) → reads o ≡ Ok object → (header o).shnum ≤ 65000
reads_few o object e = read_holds (λ (x : Object). (header o).shnum ≤ 65000) o (λ h s. few o h s.read) (λ h d l is. few o h is.read) object e

pub library_conditions : (o : List ℕ) (x : Object) (slot stamp checksum : ℕ) (l : Listed) (flat : List ℕ) (digest : Option (List ℕ)) → FormsLibrary o x slot stamp checksum l flat digest → IsLibrary o slot stamp checksum l flat digest
library_conditions o x slot stamp checksum l flat digest f = record {
  accepted = reads_accepted o x f.original.bytes f.original.few f.original.accepted f.original.dynamic;
  kind = f.kind;
  few = reads_few o x f.original.accepted;
  spare = f.spare;
  flat_size = f.filled;
  digest_size = f.digest_size;
  slot_small = f.slot_small;
  even = f.even;
  small = f.small;
}

-- ---- a program

fits_by : (size end : ℕ) (b : Bool) → (nat_lt size end && not (false && b)) ≡ false → end ≤ size
fits_by size end b e = elim (cases_Bool (nat_lt size end)) [
  | inl past ↦ absurd (true≢false (rw past at e))
  | inr inside ↦ ltb-false size end inside
]

segment_in : (o : List ℕ) (s : Segment) → elf.segment_passes o false s ≡ false → s.offset + s.filesz ≤ length o
unfolding elf.passes
segment_in o s e = fits_by (length o) (s.offset + s.filesz) (s.filesz == 0) e

pub reads_ok : (o : List ℕ) (object : Object) → reads o ≡ Ok object → is_ok (elf.read o) ≡ true
reads_ok o object e = read_holds (λ (x : Object). is_ok (elf.read o) ≡ true) o (λ h s. ap (λ (r : Result Header HeaderFault). is_ok r) s.read) (λ h d l is. ap (λ (r : Result Header HeaderFault). is_ok r) is.read) object e

right_of : (a b : Bool) → a ≡ true → (a && b) ≡ false → b ≡ false
right_of true b e h = h
right_of false b e h = absurd (true≢false (sym e))

-- StrayHeader, segment by segment
not_stray : (cut : ℕ) (ss : List Segment) → list_any (is_stray cut) ss ≡ false → (i : ℕ) (d : Segment) → i < length ss → (nat_lt (get_or ss i d).offset cut && nat_lt cut ((get_or ss i d).offset + (get_or ss i d).filesz)) ≡ false
not_stray cut ss none i d lt = not_any_at (is_stray cut) ss i d none lt

pub inside : (o : List ℕ) (i : ℕ) (d : Segment) → IsAccepted o → i < (header o).phnum → (get_or (ss_of o) i d).offset + (get_or (ss_of o) i d).filesz ≤ length o
inside o i d is lt = segment_in o (get_or (ss_of o) i d) (not_any_at (elf.segment_passes o false) (ss_of o) i d is.files (omega (arith, lt, segment_count o (header o))))

pub program_conditions : (o : List ℕ) (x : Object) (index : ℕ) (last : Segment) (e : Extension) (flat : List ℕ) (digest : Option (List ℕ)) → FormsProgram o x index last e flat digest → IsProgramForm o index last e flat digest
program_conditions o x index last e flat digest f =
    let is = reads_accepted o x f.original.bytes f.original.few f.original.accepted f.original.dynamic in
    let n : index < length (ss_of o) = omega (arith, f.last_in, segment_count o (header o)) in
    let fit = loads_accepted o (reads_ok o x f.original.accepted) in
    let load = (last_is (ss_of o) last f.latest).load in
    let good : (is_load last && elf.bad_load last) ≡ false = subst (λ (s : Segment). (is_load s && elf.bad_load s) ≡ false) (f.is_last last) (not_any_at (λ s. is_load s && elf.bad_load s) (ss_of o) index last (none_of_loads elf.bad_load (ss_of o) fit.fit) n) in
    let there : last.offset + last.filesz ≤ length o = subst (λ (s : Segment). s.offset + s.filesz ≤ length o) (f.is_last last) (inside o index last is f.last_in) in
    record {
      accepted = is;
      kind = f.kind;
      few = reads_few o x f.original.accepted;
      spare = f.spare;
      program = record {
        last_in = f.last_in;
        is_last = f.is_last;
        cut = there;
        size = (load_fits last (right_of (is_load last) (elf.bad_load last) load good)).bytes;
        before = f.before;
        stray = λ i d lt other. not_stray (last.offset + last.filesz) (ss_of o) f.stray i d (omega (arith, lt, segment_count o (header o)));
      };
      flat_size = f.filled;
      digest_size = f.digest_size;
      small = f.small;
    }

-- ---- both kinds

pub forms_undone : FormsGiveOriginals
forms_undone file o (inl f) =
    ap (back reader) f.is ∙ library_undone o f.slot f.stamp f.checksum f.list f.flat f.digest (library_conditions o f.x f.slot f.stamp f.checksum f.list f.flat f.digest f.forms)
forms_undone file o (inr f) =
    ap (back reader) f.is ∙ program_undone o f.index f.last f.lists f.flat f.digest (program_conditions o f.x f.index f.last f.lists f.flat f.digest f.forms)

pub no_form_of_two : NoFormOfTwoOriginals
no_form_of_two file o p a b = one_original reader file o p (forms_undone file o a) (forms_undone file p b)
