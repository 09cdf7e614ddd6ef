-- The link tables of an accepted file lie in it.
use Rattle.std.proofs.Common.{◌≡◌, ℕ, ◌+◌, ◌-◌, ◌*◌, ◌<◌, ◌≤◌, ◌^◌, Bool, true, false, ◌||◌, ◌++◌, List, [], ◌∷◌, length, map, get_or, Option, Some, None, Result, Ok, refl, sym, ap, ◌∙◌, arith, inl, inr}
use Rattle.std.specs.Prelude.{filter, nat_lt, nat_le, min}
use Rattle.std.specs.List.{list_any, list_all, All}
use Rattle.std.specs.Result.{is_ok}
use Rattle.std.proofs.lemmas.Bool.{cases_Bool, or_parts, ltb-false, le-leb, leb-true, true≢false}
use Rattle.std.proofs.lemmas.List.Folds.{list_all-append}
use Rattle.std.proofs.lemmas.List.Sums.{AllPass-from_list_all}
use Rattle.pl_base.proofs.AnswerLaws.{refuse_none, refuse_next}
use Rattle.pl_base.proofs.FindLaws.{find_passes, find_fails}
use Rattle.pl_base.specs.Windows.{Window, end_of}
use Rattle.pl_elf.specs.declared.constants.TheConstants.{HEADER_SIZE, SEGMENT_SIZE, SECTION_SIZE, SHT_SYMTAB}
use Rattle.pl_elf.specs.declared.header.Header.{Header}
use Rattle.pl_elf.specs.declared.segment.Segment.{Segment}
use Rattle.pl_elf.specs.declared.section.Section.{Section}
use Rattle.pl_elf.specs.declared.fault.HeaderFault.{HeaderFault}
use Rattle.pl_elf.specs.declared.fault.HeaderFault.TheVariants as fault
use Rattle.pl_elf.specs.Headers.{header, segments, sections}
use Rattle.pl_elf.specs.Clauses.{read, passes, not_elf, other_class, other_machine, other_kind, is_static_file, truncated, segment_passes, section_passes, bad_segment, bad_section, no_sections}
use Rattle.pl_dyn.specs.declared.tags.Tag.{Tag}
use Rattle.pl_object.specs.FilePart.{loads_byte, loader, loaded_by, file_window}
use Rattle.pl_object.specs.Tables.{has_kind, header_window, segments_window, section_window, symtab_windows, dynamic_memory, tables_memory, relr_memory, link_windows, static_windows}
use Rattle.pl_object.proofs.FilePartLaws.{loads_parts}

-- ---- what clauses 1 and 5 say

abbrev tests : List ℕ → List (Bool × HeaderFault)
tests bytes = (
    (not_elf bytes, fault.NotElf) ∷ (other_class bytes, fault.Class) ∷ (other_machine (header bytes), fault.Machine) ∷ (other_kind bytes (header bytes), fault.Kind)
    ∷ (truncated bytes (header bytes), fault.Truncated) ∷ (bad_segment (header bytes) (segments bytes (header bytes)), fault.BadSegment)
    ∷ (bad_section bytes (header bytes) (sections bytes (header bytes)), fault.BadSection) ∷ (no_sections (header bytes), fault.NoSections) ∷ [])

none_holds : (bytes : List ℕ) (h : Header) → read bytes ≡ Ok h → list_any (λ row. row.0) (tests bytes) ≡ false
unfolding read
none_holds bytes h e = refuse_none (tests bytes) (Ok (header bytes)) (ap (λ (r : Result Header HeaderFault). is_ok r) e)

pub header_read : (bytes : List ℕ) (h : Header) → read bytes ≡ Ok h → header bytes ≡ h
unfolding read
header_read bytes h e =
    let next : Ok (header bytes) ≡ Ok h = sym (refuse_next (tests bytes) (Ok (header bytes)) (none_holds bytes h e)) ∙ e in
    cc

first_fails : (a rest : Bool) → (a || rest) ≡ false → a ≡ false
first_fails a rest h = (or_parts a rest h).0

fifth_fails : (a b c d e rest : Bool) → (a || (b || (c || (d || (e || rest))))) ≡ false → e ≡ false
fifth_fails a b c d e rest h =
    let p1 = or_parts a (b || (c || (d || (e || rest)))) h in
    let p2 = or_parts b (c || (d || (e || rest))) p1.1 in
    let p3 = or_parts c (d || (e || rest)) p2.1 in
    let p4 = or_parts d (e || rest) p3.1 in
    (or_parts e rest p4.1).0

-- the header, the program headers, the segments and the sections lie in the file
pub record AreInFile (bytes : List ℕ) (h : Header) : Type 0 where
  pub header : HEADER_SIZE ≤ length bytes
  pub table : h.phoff + SEGMENT_SIZE * h.phnum ≤ length bytes
  pub rows : h.shoff + SECTION_SIZE * h.shnum ≤ length bytes
  pub segments : list_any (segment_passes bytes (is_static_file bytes h)) (segments bytes h) ≡ false
  pub sections : list_any (section_passes bytes) (sections bytes h) ≡ false

long_enough : (bytes : List ℕ) → not_elf bytes ≡ false → HEADER_SIZE ≤ length bytes
unfolding not_elf
long_enough bytes h = ltb-false (length bytes) HEADER_SIZE (or_parts (nat_lt (length bytes) HEADER_SIZE) _ h).0

not_truncated : (bytes : List ℕ) (h : Header) → HEADER_SIZE ≤ length bytes → truncated bytes h ≡ false → AreInFile bytes h
unfolding truncated passes
not_truncated bytes h long e =
    let p = or_parts (passes bytes h.phoff (SEGMENT_SIZE * h.phnum) || passes bytes h.shoff (SECTION_SIZE * h.shnum) || list_any (segment_passes bytes (is_static_file bytes h)) (segments bytes h)) (list_any (section_passes bytes) (sections bytes h)) e in
    let q = or_parts (passes bytes h.phoff (SEGMENT_SIZE * h.phnum) || passes bytes h.shoff (SECTION_SIZE * h.shnum)) (list_any (segment_passes bytes (is_static_file bytes h)) (segments bytes h)) p.0 in
    let r = or_parts (passes bytes h.phoff (SEGMENT_SIZE * h.phnum)) (passes bytes h.shoff (SECTION_SIZE * h.shnum)) q.0 in
    record { header = long; table = ltb-false (length bytes) (h.phoff + SEGMENT_SIZE * h.phnum) r.0; rows = ltb-false (length bytes) (h.shoff + SECTION_SIZE * h.shnum) r.1; segments = q.1; sections = p.1 }

pub are_in_file : (bytes : List ℕ) (h : Header) → read bytes ≡ Ok h → AreInFile bytes h
are_in_file bytes h e =
    let none = none_holds bytes h e in
    let whole : AreInFile bytes (header bytes) = not_truncated bytes (header bytes) (long_enough bytes (first_fails (not_elf bytes) _ none))
    (fifth_fails (not_elf bytes) (other_class bytes) (other_machine (header bytes)) (other_kind bytes (header bytes)) (truncated bytes (header bytes)) _ none) in
    rw (header_read bytes h e) at whole

-- ---- windows in the file

abbrev pub is_in : ℕ → Window → Bool
is_in size w = nat_le (end_of w) size

segment_in : (bytes : List ℕ) (s : Segment) → segment_passes bytes false s ≡ false → s.offset + s.filesz ≤ length bytes
unfolding passes
segment_in bytes s h = elim (cases_Bool (passes bytes s.offset s.filesz)) [
  | inl past ↦ absurd (true≢false (rw past at h))
  | inr fits ↦ ltb-false (length bytes) (s.offset + s.filesz) fits
]

loaded_in : (bytes : List ℕ) (m : Window) (found : Option Segment) → ((s : Segment) → found ≡ Some s → (s.vaddr ≤ m.at) × (m.at < s.vaddr + s.filesz) × (s.offset + s.filesz ≤ length bytes)) → is_in (length bytes) (loaded_by m found) ≡ true
loaded_in bytes m None all = le-leb 0 (length bytes) (omega arith)
loaded_in bytes m (Some s) all =
    let p = all s refl in
    le-leb (s.offset + (m.at - s.vaddr) + min m.size (s.vaddr + s.filesz - m.at)) (length bytes) (omega (arith, p.0, p.1, p.2))

pub file_window_in : (bytes : List ℕ) (ss : List Segment) (m : Window) → list_any (segment_passes bytes false) ss ≡ false → is_in (length bytes) (file_window ss m) ≡ true
unfolding file_window
file_window_in bytes ss m none =
    loaded_in bytes m (loader ss m.at) (λ s found.
    let p = loads_parts m.at s (find_passes (loads_byte m.at) ss s found) in
    (p.1, p.2, segment_in bytes s (find_fails (loads_byte m.at) (segment_passes bytes false) ss s found none)))

file_windows_in : (bytes : List ℕ) (ss : List Segment) (ms : List Window) → list_any (segment_passes bytes false) ss ≡ false → list_all (is_in (length bytes)) (map (file_window ss) ms) ≡ true
file_windows_in bytes ss [] none = refl
file_windows_in bytes ss (m ∷ ms) none = rw (file_window_in bytes ss m none) (file_windows_in bytes ss ms none)

symtab_in : (bytes : List ℕ) (s : Section) → has_kind SHT_SYMTAB s ≡ true → section_passes bytes s ≡ false → is_in (length bytes) (section_window s) ≡ true
unfolding passes
symtab_in bytes s kind fits =
    let is : s.kind ≡ SHT_SYMTAB = grind arith in
    let in_file : nat_lt (length bytes) (s.offset + s.size) ≡ false = rw is at fits in
    le-leb (s.offset + s.size) (length bytes) (ltb-false (length bytes) (s.offset + s.size) in_file)

symtabs_in : (bytes : List ℕ) (secs : List Section) → list_any (section_passes bytes) secs ≡ false → list_all (is_in (length bytes)) (map section_window (filter (has_kind SHT_SYMTAB) secs)) ≡ true
symtabs_in bytes [] none = refl
symtabs_in bytes (s ∷ secs) none =
    let parts = or_parts (section_passes bytes s) (list_any (section_passes bytes) secs) none in
    elim (cases_Bool (has_kind SHT_SYMTAB s)) [
      | inl hit ↦ rw hit (rw (symtab_in bytes s hit parts.0) (symtabs_in bytes secs parts.1))
      | inr miss ↦ rw miss (symtabs_in bytes secs parts.1)
    ]

head_in : (bytes : List ℕ) (h : Header) (ws : List Window) → AreInFile bytes h → list_all (is_in (length bytes)) ws ≡ true → list_all (is_in (length bytes)) (header_window ∷ segments_window h ∷ ws) ≡ true
head_in bytes h ws are all =
    rw (le-leb HEADER_SIZE (length bytes) are.header, le-leb (h.phoff + SEGMENT_SIZE * h.phnum) (length bytes) are.table) all

both_in : (n : ℕ) (vs ws : List Window) → list_all (is_in n) vs ≡ true → list_all (is_in n) ws ≡ true → list_all (is_in n) (vs ++ ws) ≡ true
both_in n vs ws v w = list_all-append (is_in n) vs ws ∙ rw (v, w) refl

pub link_windows_in : (bytes : List ℕ) (h : Header) (tags : List Tag) → read bytes ≡ Ok h → is_static_file bytes h ≡ false
    → list_all (is_in (length bytes)) (link_windows h (segments bytes h) (sections bytes h) tags) ≡ true
unfolding link_windows symtab_windows
link_windows_in bytes h tags e dynamic =
    let are = are_in_file bytes h e in
    let loaded = rw dynamic at are.segments in
    let ss = segments bytes h in
    let secs = sections bytes h in
    both_in (length bytes) (header_window ∷ segments_window h ∷ map (file_window ss) (dynamic_memory ss ∷ tables_memory tags secs)) (file_window ss (relr_memory tags) ∷ map section_window (filter (has_kind SHT_SYMTAB) secs))
    (head_in bytes h (map (file_window ss) (dynamic_memory ss ∷ tables_memory tags secs)) are (file_windows_in bytes ss (dynamic_memory ss ∷ tables_memory tags secs) loaded))
    (rw (file_window_in bytes ss (relr_memory tags) loaded) (symtabs_in bytes secs are.sections))

pub static_windows_in : (bytes : List ℕ) (h : Header) → read bytes ≡ Ok h → list_all (is_in (length bytes)) (static_windows h (sections bytes h)) ≡ true
unfolding static_windows symtab_windows
static_windows_in bytes h e =
    let are = are_in_file bytes h e in
    both_in (length bytes) (header_window ∷ segments_window h ∷ []) (map section_window (filter (has_kind SHT_SYMTAB) (sections bytes h)))
    (head_in bytes h [] are refl)
    (symtabs_in bytes (sections bytes h) are.sections)

-- windows that lie in a file are ranges of 64 bits
pub windows_fit : (size : ℕ) (ws : List Window) → size < 2 ^ 32 → list_all (is_in size) ws ≡ true → All (λ w. end_of w < 2 ^ 64) ws
windows_fit size ws few all = λ i d lt.
    let one = leb-true (end_of (get_or ws i d)) size (AllPass-from_list_all (is_in size) ws all i d lt) in
    omega (arith, one, few)
