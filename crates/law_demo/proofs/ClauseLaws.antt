-- Acceptance clauses 1 to 8 take the file of a plain recipe.
use Rattle.std.proofs.Common.{◌≡◌, ℕ, zero, suc, ◌+◌, ◌*◌, ◌%◌, ◌<◌, ◌≤◌, Bool, true, false, List, [], ◌∷◌, length, Ok, refl, sym, ◌∙◌, arith, inl, inr}
use Rattle.std.specs.Prelude.{◌⊎◌, ◌==◌, nat_le, nat_lt}
use Rattle.std.specs.List.{AllByRecursion, list_any, range_with_len}
use Rattle.std.proofs.lemmas.Bool.{cases_Bool}
use Rattle.std.proofs.lemmas.Bool.Decides.{nat_tests}
use Rattle.pl_base.proofs.AnswerLaws.{refuse_next}
use Rattle.pl_base.proofs.FindLaws.{any_map}
use Rattle.pl_elf.specs.Clauses.{passes, not_elf, other_class, other_machine, is_seen_dynamic, has_dynamic, other_kind, is_static_file, segment_passes, section_passes, truncated, bad_align, not_congruent, bad_load, overlap_in_file, has_second_of_a_kind, bad_segment, bad_section, no_sections, read}
use Rattle.pl_elf.specs.Headers as elf
use Rattle.pl_elf.specs.Headers.{is_dynamic, segment_offset}
use Rattle.pl_elf.specs.declared.fault.HeaderFault.{HeaderFault}
use Rattle.pl_elf.specs.declared.fault.HeaderFault.TheVariants.{NotElf, Class, Machine, Kind, Truncated, BadSegment, BadSection, NoSections}
use Rattle.pl_elf.specs.declared.header.Header.{Header}
use Rattle.pl_elf.specs.declared.section.Section.{Section}
use Rattle.pl_elf.specs.declared.segment.Segment.{Segment}

-- ---- tests of numbers

pub not_above : (a b : ℕ) → a ≤ b → nat_lt b a ≡ false
not_above a b le = grind (arith, nat_tests)

pub at_most : (a b : ℕ) → a ≤ b → nat_le a b ≡ true
at_most a b le = grind (arith, nat_tests)

pub not_at_most : (a b : ℕ) → b < a → nat_le a b ≡ false
not_at_most a b lt = grind (arith, nat_tests)

passes_not : (bytes : List ℕ) (offset size : ℕ) → offset + size ≤ length bytes → passes bytes offset size ≡ false
unfolding passes
passes_not bytes offset size le = not_above (offset + size) (length bytes) le

-- ---- 4: a dynamic table is seen

any_range : (f g : ℕ → Bool) (k n : ℕ) → ((i : ℕ) → i < k + n → f i ≡ g i) → list_any f (range_with_len k n) ≡ list_any g (range_with_len k n)
any_range f g k zero same = refl
any_range f g k (suc n) same = rw (same k (omega arith), any_range f g (k + 1) n (λ i lt. same i (omega (arith, lt)))) refl

seen_at : (bytes : List ℕ) (h : Header) (i : ℕ) → h.phoff + 56 * h.phnum ≤ length bytes → i < h.phnum → is_seen_dynamic bytes h i ≡ is_dynamic (elf.segment bytes h i)
unfolding is_seen_dynamic
seen_at bytes h i within lt = rw (passes_not bytes (segment_offset h i) 56 (omega (arith, within, lt))) refl

pub seen : (bytes : List ℕ) (h : Header) → h.phoff + 56 * h.phnum ≤ length bytes → list_any is_dynamic (elf.segments bytes h) ≡ true → has_dynamic bytes h ≡ true
unfolding has_dynamic elf.segments
seen bytes h within there =
    any_range (is_seen_dynamic bytes h) (λ i. is_dynamic (elf.segment bytes h i)) 0 h.phnum (λ i lt. seen_at bytes h i within (omega (arith, lt)))
    ∙ sym (any_map is_dynamic (elf.segment bytes h) (range_with_len 0 h.phnum)) ∙ there

pub known_kind : (bytes : List ℕ) (h : Header) → has_dynamic bytes h ≡ true → (h.kind ≡ 2) ⊎ (h.kind ≡ 3) → other_kind bytes h ≡ false
unfolding other_kind
known_kind bytes h there (inl program) = rw program refl
known_kind bytes h there (inr library) = rw (there, library) refl

-- ---- 5: all parts lie in the file

abbrev pub IsInFile : ℕ → Segment → Type 0
IsInFile size s = s.offset + s.filesz ≤ size

segments_in : (bytes : List ℕ) (static : Bool) (ss : List Segment) → AllByRecursion (IsInFile (length bytes)) ss → list_any (segment_passes bytes static) ss ≡ false
segments_in bytes static [] all = refl
segments_in bytes static (s ∷ ss) all = rw (passes_not bytes s.offset s.filesz all.0, segments_in bytes static ss all.1) refl

abbrev pub IsHeldIn : ℕ → Section → Type 0
IsHeldIn size s = (s.kind ≡ 8) ⊎ (s.offset + s.size ≤ size)

section_in : (bytes : List ℕ) (s : Section) → IsHeldIn (length bytes) s → section_passes bytes s ≡ false
section_in bytes s (inl none) = rw none refl
section_in bytes s (inr held) = elim (cases_Bool (s.kind == 8)) [
  | inl none ↦ rw none refl
  | inr some ↦ rw (some, passes_not bytes s.offset s.size held) refl
]

sections_in : (bytes : List ℕ) (ss : List Section) → AllByRecursion (IsHeldIn (length bytes)) ss → list_any (section_passes bytes) ss ≡ false
sections_in bytes [] all = refl
sections_in bytes (s ∷ ss) all = rw (section_in bytes s all.0, sections_in bytes ss all.1) refl

pub record AreInside (bytes : List ℕ) (h : Header) : Type 0 where
  pub segment_rows : h.phoff + 56 * h.phnum ≤ length bytes
  pub section_rows : h.shoff + 64 * h.shnum ≤ length bytes
  pub segments : AllByRecursion (IsInFile (length bytes)) (elf.segments bytes h)
  pub sections : AllByRecursion (IsHeldIn (length bytes)) (elf.sections bytes h)

pub whole : (bytes : List ℕ) (h : Header) → AreInside bytes h → truncated bytes h ≡ false
unfolding truncated
whole bytes h held =
    rw (passes_not bytes h.phoff (56 * h.phnum) held.segment_rows, passes_not bytes h.shoff (64 * h.shnum) held.section_rows, segments_in bytes (is_static_file bytes h) (elf.segments bytes h) held.segments, sections_in bytes (elf.sections bytes h) held.sections) refl

-- ---- 6: one PT_LOAD or two, and the dynamic table

pub load_good : (s : Segment) → s.align ≡ 4096 → s.filesz ≤ s.memsz → s.vaddr % 4096 ≡ 0 → s.offset % 4096 ≡ 0 → s.vaddr + s.memsz ≤ 140737488355328 → bad_load s ≡ false
unfolding bad_load bad_align not_congruent lib.Count.ones
load_good s align fits address offset ends =
    rw (align, not_above s.filesz s.memsz fits, address, offset, not_above (s.vaddr + s.memsz) 140737488355328 ends) refl

-- two PT_LOADs, or the first alone, and PT_DYNAMIC
abbrev pub shown : Bool → Segment → Segment → Segment → List Segment
shown true first second dynamic = first ∷ second ∷ dynamic ∷ []
shown false first second dynamic = first ∷ dynamic ∷ []

pub record AreGood (first second dynamic : Segment) : Type 0 where
  pub first_kind : first.kind ≡ 1
  pub second_kind : second.kind ≡ 1
  pub dynamic_kind : dynamic.kind ≡ 2
  pub first_good : bad_load first ≡ false
  pub second_good : bad_load second ≡ false
  pub apart : first.vaddr + first.memsz ≤ second.vaddr
  pub files_apart : first.offset + first.filesz ≤ second.offset

pub dynamic_shown : (b : Bool) (f s d : Segment) → AreGood f s d → list_any is_dynamic (shown b f s d) ≡ true
dynamic_shown true f s d good = rw (good.first_kind, good.second_kind, good.dynamic_kind) refl
dynamic_shown false f s d good = rw (good.first_kind, good.dynamic_kind) refl

pub segments_good : (h : Header) (b : Bool) (f s d : Segment) → h.phentsize ≡ 56 → AreGood f s d → bad_segment h (shown b f s d) ≡ false
unfolding bad_segment has_second_of_a_kind overlap_in_file
segments_good h true f s d size good = elim (cases_Bool (nat_lt f.offset (s.offset + s.filesz))) [
  | inl before ↦ rw (size, good.first_good, good.second_good, good.first_kind, good.second_kind, good.dynamic_kind, at_most 0 f.vaddr (omega arith), at_most (f.vaddr + f.memsz) s.vaddr good.apart, before, not_above (f.offset + f.filesz) s.offset good.files_apart) refl
  | inr behind ↦ rw (size, good.first_good, good.second_good, good.first_kind, good.second_kind, good.dynamic_kind, at_most 0 f.vaddr (omega arith), at_most (f.vaddr + f.memsz) s.vaddr good.apart, behind) refl
]
segments_good h false f s d size good =
    rw (size, good.first_good, good.first_kind, good.dynamic_kind, at_most 0 f.vaddr (omega arith)) refl

-- ---- the eight in order

pub record IsTaken (bytes : List ℕ) (h : Header) : Type 0 where
  pub long : 64 ≤ length bytes
  pub magic : not_elf bytes ≡ false
  pub word : other_class bytes ≡ false
  pub machine : other_machine h ≡ false
  pub kind : other_kind bytes h ≡ false
  pub inside : truncated bytes h ≡ false
  pub segments : bad_segment h (elf.segments bytes h) ≡ false
  pub sections : bad_section bytes h (elf.sections bytes h) ≡ false
  pub some : no_sections h ≡ false

pub taken : (bytes : List ℕ) (h : Header) → elf.header bytes ≡ h → IsTaken bytes h → read bytes ≡ Ok h
unfolding read
taken bytes h is t =
    rw is (refuse_next ((not_elf bytes, NotElf) ∷ (other_class bytes, Class) ∷ (other_machine h, Machine) ∷ (other_kind bytes h, Kind) ∷ (truncated bytes h, Truncated) ∷ (bad_segment h (elf.segments bytes h), BadSegment) ∷ (bad_section bytes h (elf.sections bytes h), BadSection) ∷ (no_sections h, NoSections) ∷ []) (Ok h) none)
  where
    none : list_any (λ (row : Bool × HeaderFault). row.0) ((not_elf bytes, NotElf) ∷ (other_class bytes, Class) ∷ (other_machine h, Machine) ∷ (other_kind bytes h, Kind) ∷ (truncated bytes h, Truncated) ∷ (bad_segment h (elf.segments bytes h), BadSegment) ∷ (bad_section bytes h (elf.sections bytes h), BadSection) ∷ (no_sections h, NoSections) ∷ []) ≡ false
    none = rw (t.magic, t.word, t.machine, t.kind, t.inside, t.segments, t.sections, t.some) refl
