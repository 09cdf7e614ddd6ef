-- What lies in a file that clauses 1 to 8 accept.
use Rattle.std.proofs.Common.{◌≡◌, ℕ, ◌+◌, ◌*◌, ◌<◌, ◌≤◌, Bool, true, false, List, [], ◌∷◌, length, Ok, arith}
use Rattle.std.specs.Prelude.{◌||◌, ◌&&◌, ◌==◌, not, nat_lt, nat_le}
use Rattle.std.specs.List.{list_any}
use Rattle.std.specs.Result.{is_ok}
use Rattle.std.proofs.lemmas.Bool.{or_parts, leb-false, ltb-false}
use Rattle.pl_base.proofs.AnswerLaws.{refuse_none}
use Rattle.pl_base.specs.Strings.{has_end}
use Rattle.pl_elf.specs.Headers.{header, segments, sections, HasSegments, HasSections}
use Rattle.pl_elf.specs.Clauses as elf
use Rattle.pl_form.specs.Stored.{LieIn}
use Rattle.pl_elf.specs.declared.header.Header.{Header}
use Rattle.pl_elf.specs.declared.section.Section.{Section}
use Rattle.pl_elf.specs.declared.fault.HeaderFault.{HeaderFault}
use Rattle.pl_elf.specs.declared.fault.HeaderFault.TheVariants as fault

-- clauses 7 and 8
index_by : (count index : ℕ) (a b d : Bool) → (not (count == 0) && (a || b || nat_le count index || d)) ≡ false → (count == 0) ≡ false → index < count
index_by count index a b d e some =
    let p = or_parts (a || b || nat_le count index) d (rw some at e) in
    let q = or_parts (a || b) (nat_le count index) p.0 in
    leb-false count index q.1

index_in : (h : Header) (ss : List Section) (bytes : List ℕ) → elf.bad_section bytes h ss ≡ false → (h.shnum == 0) ≡ false → h.shstrndx < h.shnum
unfolding elf.bad_section
index_in h ss bytes e some = index_by h.shnum h.shstrndx (not (h.shentsize == 64)) (nat_lt 65000 h.shnum) (list_any (λ s. not (has_end s.name (elf.names bytes h))) ss) e some

-- clause 5
tables_in : (h : Header) (bytes : List ℕ) → elf.truncated bytes h ≡ false → HasSegments bytes h × HasSections bytes h
unfolding elf.truncated elf.passes
tables_in h bytes e =
    let a = nat_lt (length bytes) (h.phoff + 56 * h.phnum) in
    let b = nat_lt (length bytes) (h.shoff + 64 * h.shnum) in
    let c = list_any (elf.segment_passes bytes (elf.is_static_file bytes h)) (segments bytes h) in
    let p = or_parts (a || b || c) (list_any (elf.section_passes bytes) (sections bytes h)) e in
    let q = or_parts (a || b) c p.0 in
    let r = or_parts a b q.0 in
    (ltb-false (length bytes) (h.phoff + 56 * h.phnum) r.0, ltb-false (length bytes) (h.shoff + 64 * h.shnum) r.1)

-- clause 1
long_by : (bytes : List ℕ) → elf.not_elf bytes ≡ false → 64 ≤ length bytes
unfolding elf.not_elf
long_by bytes e = ltb-false (length bytes) 64 (or_parts (nat_lt (length bytes) 64) _ e).0

abbrev tests : List ℕ → List (Bool × HeaderFault)
tests bytes = (
    (elf.not_elf bytes, fault.NotElf) ∷ (elf.other_class bytes, fault.Class) ∷ (elf.other_machine (header bytes), fault.Machine) ∷ (elf.other_kind bytes (header bytes), fault.Kind)
    ∷ (elf.truncated bytes (header bytes), fault.Truncated) ∷ (elf.bad_segment (header bytes) (segments bytes (header bytes)), fault.BadSegment)
    ∷ (elf.bad_section bytes (header bytes) (sections bytes (header bytes)), fault.BadSection) ∷ (elf.no_sections (header bytes), fault.NoSections) ∷ [])

pub lie_in : (bytes : List ℕ) → is_ok (elf.read bytes) ≡ true → LieIn bytes
unfolding elf.read
lie_in bytes ok =
    let h = header bytes in
    let none = refuse_none (tests bytes) (Ok h) ok in
    let p1 = or_parts (elf.not_elf bytes) _ none in
    let p2 = or_parts (elf.other_class bytes) _ p1.1 in
    let p3 = or_parts (elf.other_machine h) _ p2.1 in
    let p4 = or_parts (elf.other_kind bytes h) _ p3.1 in
    let p5 = or_parts (elf.truncated bytes h) _ p4.1 in
    let p6 = or_parts (elf.bad_segment h (segments bytes h)) _ p5.1 in
    let p7 = or_parts (elf.bad_section bytes h (sections bytes h)) _ p6.1 in
    let p8 = or_parts (elf.no_sections h) false p7.1 in
    let t = tables_in h bytes p5.0 in
    let lt : h.shstrndx < h.shnum = index_in h (sections bytes h) bytes p7.0 p8.0 in
    record { long = long_by bytes p1.0; segments = t.0; sections = t.1; names = omega (arith, lt, t.1) }
