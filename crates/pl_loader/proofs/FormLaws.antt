-- What the program headers of a prelinked file say, beside those of its original.
use Rattle.std.proofs.Common.{◌≡◌, ℕ, ◌+◌, ◌<◌, ◌≤◌, ◌^◌, true, false, List, [], ◌∷◌, length, map, Option, Some, None, refl, sym, ap, subst, ◌∙◌, arith, inl, inr}
use Rattle.std.specs.Prelude.{nat_le, nat_lt}
use Rattle.std.specs.List.{All, AllZip}
use Rattle.std.proofs.lemmas.Bool.{cases_Bool, and_parts, and_from, le-leb, lt-ltb, leb-true, ltb-true, or_cases, or_left, or_right, false≢true}
use Rattle.std.proofs.lemmas.List.Elements.{All-nil, All-cons, All-weaker}
use Rattle.pl_elf.specs.declared.constants.TheConstants.{ADDRESS_LIMIT, HEADER_SIZE}
use Rattle.pl_elf.specs.declared.segment.Segment.{Segment}
use Rattle.pl_elf.specs.Headers.{header, is_load, loads, segments}
use Rattle.pl_elf.specs.Kinds.{is_library}
use Rattle.pl_elf.specs.Ranges.{has}
use Rattle.pl_form.specs.Files.{IsBorne}
use Rattle.pl_form.specs.Marks.{IsFormOf}
use Rattle.pl_form.specs.Reading.{marked_of}
use Rattle.pl_form.specs.declared.constants.TheConstants.{STORED}
use Rattle.pl_form.specs.declared.file.Marked.{Marked}
use Rattle.pl_form.proofs.CompleteLaws.{complete}
use Rattle.pl_form.proofs.ReadLaws.{row_in}
use Rattle.pl_form.specs.Back.{has_undo_section, find_undo}
use Rattle.pl_object.proofs.SpanLaws.{Ends}
use Rattle.pl_slots.specs.Holes.{is_free}
use Rattle.pl_loader.specs.Loading.{IsRead, IsForm, IsFormIfMarked}
use Rattle.pl_loader.specs.Places.{load_range, segments_by, segments_of, program_ranges}
use Rattle.pl_loader.specs.declared.object_file.Mark.{Mark}
use Rattle.pl_loader.specs.declared.object_file.ObjectFile.{ObjectFile}
use Rattle.pl_loader.proofs.SpanLaws.{spanned}

-- ---- a form has a header

none_marked : (file : List ℕ) → has_undo_section file ≡ false → marked_of file ≡ None
unfolding marked_of
none_marked file none =
    let no : find_undo file ≡ None = rw none refl in
    elim (cases_Bool (nat_le (length file) STORED)) [
      | inl small ↦ rw (small, no) refl
      | inr large ↦ rw large refl
    ]

pub form_size : (file : List ℕ) (m : Marked) → IsFormOf file m → HEADER_SIZE ≤ length file
form_size file m is = elim (cases_Bool (has_undo_section file)) [
  | inl two ↦ let row = row_in file 2 two (omega arith) in omega (arith, row)
  | inr none ↦ absurd (let bad : ◌≡◌ {A = Option Marked} None (Some m) = sym (none_marked file none) ∙ complete file m is in cc)
]

-- a prelinked file has its header and the program header table
pub is_form : (f : ObjectFile) (k : Mark) → IsRead f → f.mark ≡ Some k → IsForm f k
is_form f k read is = subst (λ (m : Option Mark). IsFormIfMarked f m) is read.mark

pub has_header : (f : ObjectFile) (k : Mark) → IsRead f → f.mark ≡ Some k → HEADER_SIZE ≤ length k.file
has_header f k read is = form_size k.file _ (is_form f k read is).form

-- ---- the addresses of its PT_LOADs

abbrev pub EndsLow : Segment → Type 0
EndsLow s = s.vaddr + s.memsz < 2 ^ 64

borne_ends : (slot : ℕ) (ss bs : List Segment) → AllZip (IsBorne slot) ss bs → All EndsLow (loads bs)
borne_ends slot [] [] all = All-nil EndsLow
borne_ends slot [] (b ∷ bs) all = absurd all
borne_ends slot (s ∷ ss) [] all = absurd all
borne_ends slot (s ∷ ss) (b ∷ bs) all =
    let rest = borne_ends slot ss bs all.1 in
    elim (cases_Bool (is_load b)) [
      | inl hit ↦ rw hit (All-cons EndsLow b (loads bs) (all.0.end (sym all.0.load ∙ hit)) rest)
      | inr miss ↦ rw miss rest
    ]

pub ends_by : (f : ObjectFile) (m : Option Mark) → IsRead f → f.mark ≡ m → All EndsLow (loads (segments_by f.object.segments m))
ends_by f None read is = All-weaker (Ends ADDRESS_LIMIT) EndsLow (λ s le. omega (arith, le)) (loads f.object.segments) (spanned f.bytes f.object read.object).below
ends_by f (Some k) read is = borne_ends k.slot f.object.segments (segments k.file (header k.file)) (is_form f k read is).bears.each

pub loads_end : (f : ObjectFile) → IsRead f → All EndsLow (loads (segments_of f))
loads_end f read = ends_by f f.mark read refl

-- ---- a prelinked program takes what its original takes

wider : (a : ℕ) (s b : Segment) → b.vaddr ≡ 0 + s.vaddr → s.memsz ≤ b.memsz → has a (load_range s) ≡ true → has a (load_range b) ≡ true
wider a s b start size here =
    let parts = and_parts (nat_le s.vaddr a) (nat_lt a (s.vaddr + s.memsz)) here in
    let from = leb-true s.vaddr a parts.0 in
    let to = ltb-true a (s.vaddr + s.memsz) parts.1 in
    and_from (nat_le b.vaddr a) (nat_lt a (b.vaddr + b.memsz)) (le-leb b.vaddr a (omega (arith, start, from))) (lt-ltb a (b.vaddr + b.memsz) (omega (arith, start, size, to)))

borne_takes : (slot : ℕ) (ss bs : List Segment) → slot ≡ 0 → AllZip (IsBorne slot) ss bs → (a : ℕ) → is_free a (map load_range (loads ss)) ≡ true → is_free a (map load_range (loads bs)) ≡ true
borne_takes slot [] [] low all a here = here
borne_takes slot [] (b ∷ bs) low all a here = absurd all
borne_takes slot (s ∷ ss) [] low all a here = absurd all
borne_takes slot (s ∷ ss) (b ∷ bs) low all a here =
    elim (cases_Bool (is_load s)) [
      | inl hit ↦
          let borne : is_load b ≡ true = all.0.load ∙ hit in
          let start : b.vaddr ≡ 0 + s.vaddr = all.0.start hit ∙ ap (λ (n : ℕ). n + s.vaddr) low in
          rw borne
          (elim (or_cases (has a (load_range s)) (is_free a (map load_range (loads ss))) (rw hit at here)) [
            | inl first ↦ or_left (has a (load_range b)) (is_free a (map load_range (loads bs))) (wider a s b start (all.0.size hit) first)
            | inr later ↦ or_right (has a (load_range b)) (is_free a (map load_range (loads bs))) (borne_takes slot ss bs low all.1 a later)
          ])
      | inr miss ↦
          let borne : is_load b ≡ false = all.0.load ∙ miss in
          rw borne (borne_takes slot ss bs low all.1 a (rw miss at here))
    ]

takes_by : (f : ObjectFile) (m : Option Mark) → IsRead f → is_library f.object.kind ≡ false → f.mark ≡ m → (a : ℕ) → is_free a (map load_range (loads f.object.segments)) ≡ true → is_free a (map load_range (loads (segments_by f.object.segments m))) ≡ true
takes_by f None read program is a here = here
takes_by f (Some k) read program is a here =
    let form = is_form f k read is in
    let low : k.slot ≡ 0 = elim form.form.mark [
      | inl library ↦ absurd (false≢true (sym program ∙ library.library))
      | inr mark ↦ mark.slot
    ] in
    borne_takes k.slot f.object.segments (segments k.file (header k.file)) low form.bears.each a here

pub program_takes : (f : ObjectFile) → IsRead f → is_library f.object.kind ≡ false → (a : ℕ) → is_free a (map load_range (loads f.object.segments)) ≡ true → is_free a (program_ranges f) ≡ true
unfolding program_ranges
program_takes f read program a here = takes_by f f.mark read program refl a here
