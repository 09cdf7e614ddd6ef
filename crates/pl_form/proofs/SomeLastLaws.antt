-- An accepted file has a last PT_LOAD.
use Rattle.std.proofs.Common.{◌≡◌, ℕ, inl, inr, Bool, true, false, List, [], ◌∷◌, Option, Some, None, Result, Ok, refl, ap}
use Rattle.std.specs.Prelude.{◌||◌, ◌&&◌, ◌==◌, not, is_some, fold, if◌then◌else◌}
use Rattle.std.specs.List.{list_any}
use Rattle.std.specs.Result.{is_ok}
use Rattle.std.proofs.lemmas.Bool.{cases_Bool, or_parts, not-false, false≢true}
use Rattle.pl_base.proofs.AnswerLaws.{refuse_none}
use Rattle.pl_elf.specs.Clauses as elf
use Rattle.pl_elf.specs.Headers.{header, segments, sections, is_load, loads}
use Rattle.pl_elf.specs.declared.fault.HeaderFault.{HeaderFault}
use Rattle.pl_elf.specs.declared.fault.HeaderFault.TheVariants as fault
use Rattle.pl_elf.specs.declared.header.Header.{Header}
use Rattle.pl_elf.specs.declared.segment.Segment.{Segment}
use Rattle.pl_object.specs.PlaceClauses.{last_load}
use Rattle.pl_object.specs.Reads.{reads}
use Rattle.pl_object.specs.declared.object.Object.{Object}
use Rattle.pl_object.proofs.AcceptedLaws.{read_holds}
use Rattle.pl_form.specs.Found.{ss_of}

abbrev tests : List ℕ → List (Bool × HeaderFault)
tests bytes = (
    (elf.not_elf bytes, fault.NotElf) ∷ (elf.other_class bytes, fault.Class) ∷ (elf.other_machine (header bytes), fault.Machine) ∷ (elf.other_kind bytes (header bytes), fault.Kind)
    ∷ (elf.truncated bytes (header bytes), fault.Truncated) ∷ (elf.bad_segment (header bytes) (segments bytes (header bytes)), fault.BadSegment)
    ∷ (elf.bad_section bytes (header bytes) (sections bytes (header bytes)), fault.BadSection) ∷ (elf.no_sections (header bytes), fault.NoSections) ∷ [])

-- clause 6
some_load : (h : Header) (ss : List Segment) → elf.bad_segment h ss ≡ false → list_any is_load ss ≡ true
unfolding elf.bad_segment
some_load h ss e =
    let a = not (h.phentsize == 56) in
    let b = not (list_any is_load ss) in
    let c = elf.has_second_of_a_kind ss in
    let d = list_any (λ s. is_load s && elf.bad_load s) ss in
    let f = not (elf.ascend_from 0 (loads ss)) in
    let g = elf.overlap_in_file ss in
    let p1 = or_parts (a || b || c || d || f || g) (list_any elf.bad_tls ss) e in
    let p2 = or_parts (a || b || c || d || f) g p1.0 in
    let p3 = or_parts (a || b || c || d) f p2.0 in
    let p4 = or_parts (a || b || c) d p3.0 in
    let p5 = or_parts (a || b) c p4.0 in
    not-false (list_any is_load ss) (or_parts a b p5.0).1

loads_of : (bytes : List ℕ) → is_ok (elf.read bytes) ≡ true → list_any is_load (ss_of bytes) ≡ true
unfolding elf.read
loads_of bytes ok =
    let h = header bytes in
    let none = refuse_none (tests bytes) (Ok h) ok in
    let p1 = or_parts (elf.not_elf bytes) _ none in
    let p2 = or_parts (elf.other_class bytes) _ p1.1 in
    let p3 = or_parts (elf.other_machine h) _ p2.1 in
    let p4 = or_parts (elf.other_kind bytes h) _ p3.1 in
    let p5 = or_parts (elf.truncated bytes h) _ p4.1 in
    some_load h (segments bytes h) (or_parts (elf.bad_segment h (segments bytes h)) _ p5.1).0

abbrev latest : Option Segment → Segment → Option Segment
latest found s = if is_load s then Some s else found

kept : (ss : List Segment) (found : Option Segment) → is_some found ≡ true → is_some (fold latest found ss) ≡ true
kept [] found some = some
kept (s ∷ ss) found some = elim (cases_Bool (is_load s)) [
  | inl hit ↦ rw hit (kept ss (Some s) refl)
  | inr miss ↦ rw miss (kept ss found some)
]

found_one : (ss : List Segment) (found : Option Segment) → list_any is_load ss ≡ true → is_some (fold latest found ss) ≡ true
found_one [] found any = absurd (false≢true any)
found_one (s ∷ ss) found any = elim (cases_Bool (is_load s)) [
  | inl hit ↦ rw hit (kept ss (Some s) refl)
  | inr miss ↦ rw miss (found_one ss found (rw miss at any))
]

last_by : (ss : List Segment) → list_any is_load ss ≡ true → is_some (last_load ss) ≡ true
unfolding last_load
last_by ss any = found_one ss None any

pub some_last : (o : List ℕ) (x : Object) → reads o ≡ Ok x → is_some (last_load (ss_of o)) ≡ true
some_last o x e =
    last_by (ss_of o) (loads_of o (read_holds (λ (y : Object). is_ok (elf.read o) ≡ true) o (λ h s. ap (λ (r : Result Header HeaderFault). is_ok r) s.read) (λ h d l is. ap (λ (r : Result Header HeaderFault). is_ok r) is.read) x e))
