-- What having a form says of an accepted original: the premises of the laws of forms.
use Rattle.std.proofs.Common.{[], ◌∷◌, ◌≡◌, ℕ, ◌+◌, ◌-◌, ◌*◌, ◌<◌, ◌≤◌, Bool, true, false, List, length, Option, Some, None, Result, Ok, refl, sym, subst, ap, ◌∙◌, arith, inl, inr, get_or, drop}
use Rattle.std.specs.Prelude.{◌||◌, ◌&&◌, ◌==◌, not, nat_lt, fold, if◌then◌else◌}
use Rattle.std.specs.List.{list_any}
use Rattle.std.specs.Result.{is_ok}
use Rattle.std.proofs.lemmas.Bool.{cases_Bool, or_parts, ltb-false, eqb-true, true≢false, false≢true}
use Rattle.std.proofs.lemmas.List.{length-take}
use Rattle.pl_base.proofs.AnswerLaws.{refuse_none, unless_ok}
use Rattle.pl_base.specs.Windows.{within}
use Rattle.pl_elf.specs.Headers.{header, segments, sections, is_load}
use Rattle.pl_elf.specs.Clauses as elf
use Rattle.pl_elf.specs.Kinds.{is_library, is_program}
use Rattle.pl_elf.specs.declared.header.Header.{Header}
use Rattle.pl_elf.specs.declared.kind.Kind.{Kind}
use Rattle.pl_elf.specs.declared.kind.Kind.TheVariants.{Program, Library, Static}
use Rattle.pl_object.proofs.ExtentLaws.{header_read}
use Rattle.pl_elf.specs.declared.fault.HeaderFault.{HeaderFault}
use Rattle.pl_elf.specs.declared.fault.HeaderFault.TheVariants as fault
use Rattle.pl_elf.specs.declared.range.Range.{Range}
use Rattle.pl_elf.specs.declared.segment.Segment.{Segment}
use Rattle.pl_object.specs.Accepted as accepted_specs
use Rattle.pl_object.specs.Accepted.{Accepted}
use Rattle.pl_object.specs.FilePart.{file_window, loaded}
use Rattle.pl_object.specs.PlaceClauses.{last_load}
use Rattle.pl_object.specs.Reads.{reads, kind_of, object, static_object, headers}
use Rattle.pl_object.specs.Tables.{dynamic_memory}
use Rattle.pl_object.specs.declared.object.Object.{Object}
use Rattle.pl_object.proofs.AcceptedLaws.{read_holds, accepted}
use Rattle.pl_form.specs.Found.{ss_of, d_of, tags_of}
use Rattle.pl_form.specs.PartLaws.{IsOriginal, is_stray}
use Rattle.pl_form.proofs.AcceptedIs.{segments_are}
use Rattle.pl_dyn.specs.Entries.{tags}
use Rattle.pl_form.specs.Faults as faults
use Rattle.pl_form.specs.Faults.{IsFirm, form_fault, program_fault, stray_header, no_region, cut_of}
use Rattle.pl_form.specs.Program.{last_index}
use Rattle.pl_form.specs.declared.fault.FormFault.{FormFault}
use Rattle.pl_form.specs.declared.fault.FormFault.TheVariants.{NoSpareTags, BssTooLarge, StrayHeader, InRegion, LastLoadNotLast}

-- ---- the kind, by the header's type

abbrev tests : List ℕ → List (Bool × HeaderFault)
tests bytes = (
    (elf.not_elf bytes, fault.NotElf) ∷ (elf.other_class bytes, fault.Class) ∷ (elf.other_machine (header bytes), fault.Machine) ∷ (elf.other_kind bytes (header bytes), fault.Kind)
    ∷ (elf.truncated bytes (header bytes), fault.Truncated) ∷ (elf.bad_segment (header bytes) (segments bytes (header bytes)), fault.BadSegment)
    ∷ (elf.bad_section bytes (header bytes) (sections bytes (header bytes)), fault.BadSection) ∷ (elf.no_sections (header bytes), fault.NoSections) ∷ [])

-- no clause from 4 to 5 refuses the file, and the header is the file's
record IsClear (bytes : List ℕ) (h : Header) : Type 0 where
  is : header bytes ≡ h
  kind : elf.other_kind bytes h ≡ false
  whole : elf.truncated bytes h ≡ false

clear : (bytes : List ℕ) (h : Header) → elf.read bytes ≡ Ok h → IsClear bytes h
unfolding elf.read
clear bytes h e =
    let none = refuse_none (tests bytes) (Ok (header bytes)) (ap (λ (r : Result Header HeaderFault). is_ok r) e) in
    let p1 = or_parts (elf.not_elf bytes) _ none in
    let p2 = or_parts (elf.other_class bytes) _ p1.1 in
    let p3 = or_parts (elf.other_machine (header bytes)) _ p2.1 in
    let p4 = or_parts (elf.other_kind bytes (header bytes)) _ p3.1 in
    let p5 = or_parts (elf.truncated bytes (header bytes)) _ p4.1 in
    let is = header_read bytes h e in
    record { is = is; kind = subst (λ (x : Header). elf.other_kind bytes x ≡ false) is p4.0; whole = subst (λ (x : Header). elf.truncated bytes x ≡ false) is p5.0 }

two_or_three : (k : ℕ) (there : Bool) → (not (k == 2) && not (k == 3 && there)) ≡ false → (k == 2) ≡ false → k ≡ 3
two_or_three k there e other = elim (cases_Bool (k == 3)) [ inl hit ↦ eqb-true k 3 hit | inr miss ↦ absurd (true≢false (rw (other, miss) at e)) ]

three_of : (bytes : List ℕ) (h : Header) → elf.other_kind bytes h ≡ false → is_library (kind_of h) ≡ true → h.kind ≡ 3
unfolding elf.other_kind
three_of bytes h e library = elim (cases_Bool (h.kind == 2)) [
  | inl hit ↦ absurd (false≢true (rw hit at library))
  | inr miss ↦ two_or_three h.kind (elf.has_dynamic bytes h) e miss
]

two_of : (h : Header) → is_program (kind_of h) ≡ true → h.kind ≡ 2
two_of h program = elim (cases_Bool (h.kind == 2)) [
  | inl hit ↦ eqb-true h.kind 2 hit
  | inr miss ↦ absurd (false≢true (rw miss at program))
]

abbrev HasKind : List ℕ → Object → Type 0
HasKind o x = (is_library x.kind ≡ true → (header o).kind ≡ 3) × (is_program x.kind ≡ true → (header o).kind ≡ 2)

kinds : (o : List ℕ) (x : Object) → reads o ≡ Ok x → HasKind o x
unfolding static_object object headers
kinds o x e =
    read_holds (HasKind o) o (λ h s. ((λ library. absurd (false≢true library)), (λ program. absurd (false≢true program))))
    (λ h d l is. let c = clear o h is.read in
    ((λ library. ap (λ (y : Header). y.kind) c.is ∙ three_of o h c.kind library), (λ program. ap (λ (y : Header). y.kind) c.is ∙ two_of h program))) x e

pub library_three : (o : List ℕ) (x : Object) → reads o ≡ Ok x → is_library x.kind ≡ true → (header o).kind ≡ 3
library_three o x e library = (kinds o x e).0 library

pub program_two : (o : List ℕ) (x : Object) → reads o ≡ Ok x → is_program x.kind ≡ true → (header o).kind ≡ 2
program_two o x e program = (kinds o x e).1 program

-- ---- an original

pub original_is : (o : List ℕ) (x : Object) → IsFirm o x → IsOriginal o x
original_is o x firm = record { bytes = firm.bytes; few = firm.few; accepted = firm.accepted; dynamic = firm.dynamic }

-- ---- spare entries

spare_in : (o : List ℕ) (x : Object) → Accepted o x → accepted_specs.IsTabled o x (accepted_specs.tags_of o x) → 16 * (length (tags_of o) + x.spare + 1) ≤ (d_of o).size
unfolding loaded
spare_in o x acc tabled =
    let ts : length (accepted_specs.tags_of o x) ≡ length (tags_of o) = ap (λ (ss : List Segment). length (tags (within (file_window ss (dynamic_memory ss)) o))) (segments_are o x acc) in
    let d : length (accepted_specs.dynamic_table o x) ≤ (d_of o).size =
    subst (λ (ss : List Segment). length (within (file_window ss (dynamic_memory ss)) o) ≤ (d_of o).size) (sym (segments_are o x acc)) (omega (arith, length-take (d_of o).size (drop (d_of o).at o))) in
    omega (arith, ts, d, tabled.ended)

enough : (o : List ℕ) (x : Object) (spare more : ℕ) → IsFirm o x → nat_lt x.spare spare ≡ false → more ≤ 16 * spare → 16 * length (tags_of o) + more ≤ (d_of o).size
enough o x spare more firm some le =
    let acc = accepted o x firm.accepted in
    omega (arith, spare_in o x acc (acc.tabled firm.dynamic), ltb-false x.spare spare some, le)

spare_of : (o : List ℕ) (x : Object) (n : ℕ) → IsFirm o x → faults.wanted_spare x ≡ n → nat_lt x.spare n ≡ false
unfolding form_fault
spare_of o x n firm is = subst (λ (k : ℕ). nat_lt x.spare k ≡ false) is (unless_ok (nat_lt x.spare (faults.wanted_spare x)) NoSpareTags _ tt firm.firm).0

pub library_spare : (o : List ℕ) (x : Object) → IsFirm o x → is_library x.kind ≡ true → 16 * length (tags_of o) + 32 ≤ (d_of o).size
library_spare o x firm library = enough o x 2 32 firm (spare_of o x 2 firm (rw library refl)) (omega arith)

no_library : (kind : Kind) → is_program kind ≡ true → is_library kind ≡ false
no_library Program e = refl
no_library Library e = absurd (false≢true e)
no_library Static e = absurd (false≢true e)

pub program_no_library : (x : Object) → is_program x.kind ≡ true → is_library x.kind ≡ false
program_no_library x program = no_library x.kind program

pub program_spare : (o : List ℕ) (x : Object) → IsFirm o x → is_program x.kind ≡ true → 16 * length (tags_of o) + 64 ≤ (d_of o).size
program_spare o x firm program = enough o x 4 64 firm (spare_of o x 4 firm (rw (program_no_library x program) refl)) (omega arith)

-- ---- the last PT_LOAD of a program

abbrev pub latest : Option Segment → Segment → Option Segment
latest found s = if is_load s then Some s else found

pub fold_found : (found : Option Segment) (ss : List Segment) → fold latest found ss ≡ (if list_any is_load ss then fold latest None ss else found)
fold_found found [] = refl
fold_found found (s ∷ ss) = elim (cases_Bool (is_load s)) [
  | inl hit ↦ rw hit refl
  | inr miss ↦ rw miss (fold_found found ss)
]

some_same : (x y : Segment) → ◌≡◌ {A = Option Segment} (Some x) (Some y) → x ≡ y
some_same x y e = cc

no_segment : (last : Segment) → ◌≡◌ {A = Option Segment} None (Some last) → ⊥
no_segment last e = absurd cc

only_one : (s last : Segment) → latest None s ≡ Some last → s ≡ last
only_one s last e = elim (cases_Bool (is_load s)) [
  | inl hit ↦ some_same s last (rw hit at e)
  | inr miss ↦ absurd (no_segment last (rw miss at e))
]

last_at : (ss : List Segment) (last d : Segment) → fold latest None ss ≡ Some last → (last_index ss < length ss) × (get_or ss (last_index ss) d ≡ last)
unfolding last_index
last_at [] last d e = absurd (no_segment last e)
last_at (s ∷ ss) last d e = elim (cases_Bool (list_any is_load ss)) [
  | inl some ↦
      let same : fold latest (latest None s) ss ≡ fold latest None ss = fold_found (latest None s) ss ∙ rw some refl in
      let r = last_at ss last d (sym same ∙ e) in
      rw some (omega (arith, r.0), r.1)
  | inr none ↦
      let same : fold latest (latest None s) ss ≡ latest None s = fold_found (latest None s) ss ∙ rw none refl in
      rw none (omega arith, only_one s last (sym same ∙ e))
]

-- its index
pub last_found : (ss : List Segment) (last : Segment) → last_load ss ≡ Some last → (last_index ss < length ss) × ((d : Segment) → get_or ss (last_index ss) d ≡ last)
unfolding last_load
last_found ss last e = ((last_at ss last last e).0, (λ d. (last_at ss last d e).1))

-- what the form faults of a program say of it
pub record IsUntorn (o : List ℕ) (last : Segment) : Type 0 where
  pub zeros : last.memsz - last.filesz ≤ 16777216
  pub before : (header o).phoff + 56 * (header o).phnum ≤ last.offset + last.filesz
  pub stray : list_any (is_stray (last.offset + last.filesz)) (ss_of o) ≡ false

untorn_by : (x : Object) (last : Segment) (region : Range) → program_fault x (Some last) region ≡ Ok tt → (faults.bss_too_large last ≡ false) × (stray_header x (cut_of last) ≡ false)
unfolding program_fault
untorn_by x last region e =
    let tests : List (Bool × FormFault) = (
    (faults.bss_too_large last, BssTooLarge) ∷ (stray_header x (cut_of last), StrayHeader)
    ∷ (faults.in_region x.segments last region, InRegion) ∷ (list_any (faults.is_later last) x.segments, LastLoadNotLast) ∷ []) in
    let none = refuse_none tests (Ok tt) (ap (λ (r : Result (Unit {0}) FormFault). is_ok r) e) in
    let p = or_parts (faults.bss_too_large last) _ none in
    (p.0, (or_parts (stray_header x (cut_of last)) _ p.1).0)

fault_next : (x : Object) → form_fault x no_region ≡ Ok tt → is_library x.kind ≡ false → program_fault x (last_load x.segments) no_region ≡ Ok tt
unfolding form_fault
fault_next x e other = rw other at (unless_ok (nat_lt x.spare (faults.wanted_spare x)) NoSpareTags _ tt e).1

untorn_parts : (x : Object) (cut : ℕ) → stray_header x cut ≡ false → (x.header.phoff + 56 * x.header.phnum ≤ cut) × (list_any (is_stray cut) x.segments ≡ false)
unfolding stray_header
untorn_parts x cut e =
    let p1 = or_parts (nat_lt cut (x.header.phoff + 56 * x.header.phnum) || list_any (λ s. faults.is_torn cut s.offset s.filesz) x.segments || list_any (faults.is_torn_section cut) x.sections) _ e in
    let p2 = or_parts (nat_lt cut (x.header.phoff + 56 * x.header.phnum) || list_any (λ s. faults.is_torn cut s.offset s.filesz) x.segments) _ p1.0 in
    let p3 = or_parts (nat_lt cut (x.header.phoff + 56 * x.header.phnum)) (list_any (λ s. faults.is_torn cut s.offset s.filesz) x.segments) p2.0 in
    (ltb-false cut (x.header.phoff + 56 * x.header.phnum) p3.0, p3.1)

pub program_untorn : (o : List ℕ) (x : Object) (last : Segment) → IsFirm o x → is_program x.kind ≡ true → last_load (ss_of o) ≡ Some last → IsUntorn o last
program_untorn o x last firm program at =
    let acc = accepted o x firm.accepted in
    let same = segments_are o x acc in
    let here : last_load x.segments ≡ Some last = ap last_load same ∙ at in
    let f : program_fault x (Some last) no_region ≡ Ok tt = subst (λ (l : Option Segment). program_fault x l no_region ≡ Ok tt) here (fault_next x firm.firm (program_no_library x program)) in
    let t = untorn_by x last no_region f in
    let u = untorn_parts x (cut_of last) t.1 in
    record {
      zeros = ltb-false 16777216 (last.memsz - last.filesz) t.0;
      before = subst (λ (h : Header). h.phoff + 56 * h.phnum ≤ cut_of last) (sym acc.head.header) u.0;
      stray = subst (λ (ss : List Segment). list_any (is_stray (cut_of last)) ss ≡ false) same u.1;
    }
