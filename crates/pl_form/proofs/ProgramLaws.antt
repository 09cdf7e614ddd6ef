-- The segments and sections of a program's form, as its code makes them, are those of its plan.
use Rattle.std.proofs.Common.{◌≡◌, ℕ, zero, suc, ◌+◌, ◌^◌, ◌<◌, ◌≤◌, Bool, false, List, [], ◌∷◌, ◌++◌, length, map, take, drop, get_or, add-one, refl, sym, ap, ◌∙◌, arith, inl, inr}
use Rattle.std.specs.Prelude.{◌&&◌, ◌==◌, not, nat_lt, nat_le, if◌then◌else◌}
use Rattle.std.specs.List.{list_any}
use Rattle.std.proofs.lemmas.Bool.{cases_Bool, or_parts, ltb-false, true≢false}
use Rattle.pl_base.specs.Sums.{plus}
use Rattle.pl_elf.specs.Clauses as elf
use Rattle.pl_elf.specs.Clauses.{segment_passes, section_passes}
use Rattle.pl_elf.specs.declared.segment.Segment.{Segment}
use Rattle.pl_elf.specs.declared.section.Section.{Section}
use Rattle.pl_form.specs.Parts as parts
use Rattle.pl_form.specs.Parts.{program_segments, extended_segment, is_grown}
use Rattle.pl_form.specs.Extending as extending
use Rattle.pl_form.specs.Extending.{split_segments}
use Rattle.pl_form.specs.declared.program.Last.{Last}
use Rattle.pl_form.specs.declared.program.Shift.{Shift}

-- ---- what lies in a file

passes_end : (size at end : ℕ) (b : Bool) → (nat_lt size end && not (false && b)) ≡ false → end ≤ size
passes_end size at end b e = elim (cases_Bool (nat_lt size end)) [
  | inl past ↦ absurd (true≢false (rw past at e))
  | inr inside ↦ ltb-false size end inside
]

-- ---- sums that do not wrap

plus_small : (x y : ℕ) → x + y < 2 ^ 64 → plus x y ≡ x + y
plus_small x y lt = omega (arith, lt)

shift_one : (cut size most : ℕ) (s : Segment) → s.offset ≤ most → most + size < 2 ^ 64 → extending.segment_shifted_by (record { cut = cut; size = size }) s ≡ parts.shifted_segment cut size s
shift_one cut size most s low room = ap (λ (n : ℕ). if nat_lt 0 s.filesz && nat_le cut s.offset then record s { offset = n } else s) (plus_small s.offset size (omega (arith, low, room)))

-- the offsets of segments, and those of sections other than NOBITS, are small
abbrev pub AreLow : ℕ → List Segment → Type 0
AreLow most [] = Unit {0}
AreLow most (s ∷ ss) = (s.offset ≤ most) × AreLow most ss

low_take : (most n : ℕ) (ss : List Segment) → AreLow most ss → AreLow most (take n ss)
low_take most zero ss low = tt
low_take most (suc n) [] low = tt
low_take most (suc n) (s ∷ ss) low = (low.0, low_take most n ss low.1)

low_drop : (most n : ℕ) (ss : List Segment) → AreLow most ss → AreLow most (drop n ss)
low_drop most zero ss low = low
low_drop most (suc n) [] low = tt
low_drop most (suc n) (s ∷ ss) low = low_drop most n ss low.1

shift_all : (cut size most : ℕ) (ss : List Segment) → AreLow most ss → most + size < 2 ^ 64 → map (extending.segment_shifted_by (record { cut = cut; size = size })) ss ≡ map (parts.shifted_segment cut size) ss
shift_all cut size most [] low room = refl
shift_all cut size most (s ∷ ss) low room =
    ap (λ (x : Segment). x ∷ map (extending.segment_shifted_by (record { cut = cut; size = size })) ss) (shift_one cut size most s low.0 room)
    ∙ ap (λ (xs : List Segment). parts.shifted_segment cut size s ∷ xs) (shift_all cut size most ss low.1 room)

split_is : (cut size more index : ℕ) (last : Segment) (ss : List Segment) → index < length ss → ((d : Segment) → get_or ss index d ≡ last) → program_segments cut size more index ss
    ≡ map (parts.shifted_segment cut size) (take index ss) ++ extended_segment more last ∷ map (parts.shifted_segment cut size) (drop (suc index) ss)
split_is cut size more index last [] lt is = absurd (omega (arith, lt))
split_is cut size more zero last (s ∷ ss) lt is = ap (λ (x : Segment). extended_segment more x ∷ map (parts.shifted_segment cut size) ss) (is s)
split_is cut size more (suc index) last (s ∷ ss) lt is = ap (λ (xs : List Segment). parts.shifted_segment cut size s ∷ xs) (split_is cut size more index last ss (omega (arith, lt)) is)

pub segments_are : (cut size more most : ℕ) (last : Last) (ss : List Segment) → last.index < length ss → ((d : Segment) → get_or ss last.index d ≡ last.segment) → AreLow most ss → most + size < 2 ^ 64
    → split_segments (record { cut = cut; size = size }) more last ss ≡ program_segments cut size more last.index ss
segments_are cut size more most last ss lt is low room =
    let shift : Shift = record { cut = cut; size = size } in
    let f = map (extending.segment_shifted_by shift) in
    let g = map (parts.shifted_segment cut size) in
    ap (λ (n : ℕ). f (take last.index ss) ++ extended_segment more last.segment ∷ f (drop n ss)) (add-one last.index)
    ∙ ap (λ (xs : List Segment). xs ++ extended_segment more last.segment ∷ f (drop (suc last.index) ss)) (shift_all cut size most (take last.index ss) (low_take most last.index ss low) room)
    ∙ ap (λ (xs : List Segment). g (take last.index ss) ++ extended_segment more last.segment ∷ xs) (shift_all cut size most (drop (suc last.index) ss) (low_drop most (suc last.index) ss low) room)
    ∙ sym (split_is cut size more last.index last.segment ss lt is)

pub low_files : (bytes : List ℕ) (ss : List Segment) → list_any (segment_passes bytes false) ss ≡ false → AreLow (length bytes) ss
unfolding elf.passes
low_files bytes [] none = tt
low_files bytes (s ∷ ss) none =
    let p = or_parts (segment_passes bytes false s) (list_any (segment_passes bytes false) ss) none in
    let end : s.offset + s.filesz ≤ length bytes = passes_end (length bytes) s.offset (s.offset + s.filesz) (s.filesz == 0) p.0 in
    (omega (arith, end), low_files bytes ss p.1)

-- ---- sections

abbrev pub AreLowSections : ℕ → List Section → Type 0
AreLowSections most [] = Unit {0}
AreLowSections most (s ∷ ss) = (((s.kind == 8) ≡ false) → s.offset ≤ most) × AreLowSections most ss

section_one : (cut size most : ℕ) (last : Segment) (s : Section) → (((s.kind == 8) ≡ false) → s.offset ≤ most) → most + size < 2 ^ 64
    → extending.section_shifted_by (record { cut = cut; size = size }) last s ≡ parts.program_section cut size last s
section_one cut size most last s low room = elim (cases_Bool (is_grown last s)) [
  | inl grown ↦ rw grown refl
  | inr kept ↦ elim (cases_Bool (s.kind == 8)) [
    | inl none ↦ rw (kept, none) refl
    | inr some ↦ rw (kept, some) (ap (λ (n : ℕ). if nat_le cut s.offset then record s { offset = n } else s) (plus_small s.offset size (omega (arith, low some, room))))
  ]
]

pub sections_are : (cut size most : ℕ) (last : Segment) (ss : List Section) → AreLowSections most ss → most + size < 2 ^ 64
    → map (extending.section_shifted_by (record { cut = cut; size = size }) last) ss ≡ map (parts.program_section cut size last) ss
sections_are cut size most last [] low room = refl
sections_are cut size most last (s ∷ ss) low room =
    ap (λ (x : Section). x ∷ map (extending.section_shifted_by (record { cut = cut; size = size }) last) ss) (section_one cut size most last s low.0 room)
    ∙ ap (λ (xs : List Section). parts.program_section cut size last s ∷ xs) (sections_are cut size most last ss low.1 room)

pub low_sections : (bytes : List ℕ) (ss : List Section) → list_any (section_passes bytes) ss ≡ false → AreLowSections (length bytes) ss
unfolding elf.passes
low_sections bytes [] none = tt
low_sections bytes (s ∷ ss) none =
    let p = or_parts (section_passes bytes s) (list_any (section_passes bytes) ss) none in
    ((λ some. let end : s.offset + s.size ≤ length bytes = ltb-false (length bytes) (s.offset + s.size) (rw some at p.0) in omega (arith, end)), low_sections bytes ss p.1)
