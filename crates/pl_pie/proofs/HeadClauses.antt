-- Acceptance clauses 1 to 8 take a fixed file as they take the program.
use Rattle.std.proofs.Common.{◌≡◌, ℕ, ◌+◌, ◌*◌, ◌%◌, ◌<◌, ◌≤◌, Bool, true, false, List, [], ◌∷◌, length, map, get_or, Result, Ok, refl, sym, ap, subst, ◌∙◌, arith, inl, inr}
use Rattle.std.specs.Prelude.{◌||◌, ◌&&◌, ◌==◌, not, nat_le, nat_lt, if◌then◌else◌}
use Rattle.std.specs.Int.{is_power_of_two}
use Rattle.std.specs.List.{All, list_any, range_with_len}
use Rattle.std.specs.Result.{is_ok}
use Rattle.std.proofs.lemmas.Bool.{cases_Bool, or_parts, or_from, and_parts, leb-true, le-leb, false≢true}
use Rattle.std.proofs.lemmas.Bool.Decides.{nat_tests}
use Rattle.pl_base.specs.Bytes.{part, byte}
use Rattle.pl_base.specs.Strings.{has_end}
use Rattle.pl_base.specs.Sums.{plus}
use Rattle.pl_base.specs.Windows.{any_share}
use Rattle.pl_base.proofs.AnswerLaws.{refuse_none, refuse_next}
use Rattle.pl_base.proofs.FindLaws.{any_map, any_same}
use Rattle.pl_base.proofs.WindowLaws.{part_byte}
use Rattle.pl_elf.specs.Clauses.{passes, not_elf, other_class, other_machine, is_seen_dynamic, has_dynamic, other_kind, is_static_file, segment_passes, section_passes, truncated, bad_align, not_congruent, bad_load, ascend_from, load_windows, overlap_in_file, bad_tls, has_second_of_a_kind, bad_segment, names, bad_section, no_sections, read}
use Rattle.pl_elf.specs.Headers.{header, segment, segments, sections, is_load, is_moved_kind, is_of_kind, loads, count_of_kind}
use Rattle.pl_elf.specs.declared.constants.TheConstants.{ET_EXEC, ADDRESS_LIMIT, MAX_LOAD_ALIGN, MAX_SECTIONS, PT_DYNAMIC, PT_TLS, PT_INTERP}
use Rattle.pl_elf.specs.declared.fault.HeaderFault.{HeaderFault}
use Rattle.pl_elf.specs.declared.fault.HeaderFault.TheVariants.{NotElf, Class, Machine, Kind, Truncated, BadSegment, BadSection, NoSections}
use Rattle.pl_elf.specs.declared.header.Header.{Header}
use Rattle.pl_elf.specs.declared.section.Section.{Section}
use Rattle.pl_elf.specs.declared.segment.Segment.{Segment}
use Rattle.pl_object.proofs.ExtentLaws.{header_read}
use Rattle.law_fixed.specs.Fixed.{fixed_header, fixed_segment, fixed_section}
use Rattle.law_fixed.proofs.ImageLaws.{load_moves, loads_all}
use Rattle.law_fixed.proofs.LookupLaws.{count_kept}
use Rattle.pl_pie.proofs.PowerLaws.{remainder_kept}
use Rattle.pl_pie.proofs.RowOfLaws.{range_same}

-- ---- what is told by lengths and by the first bytes

passes_kept : (xs ys : List ℕ) (offset size : ℕ) → length ys ≡ length xs → passes ys offset size ≡ passes xs offset size
unfolding passes
passes_kept xs ys offset size same = ap (λ (n : ℕ). nat_lt n (offset + size)) same

ident_byte : (xs ys : List ℕ) (k : ℕ) → part 0 16 ys ≡ part 0 16 xs → k < 16 → byte k ys ≡ byte k xs
ident_byte xs ys k same lt =
    let here : 0 + k ≡ k = omega arith in
    ap (λ (n : ℕ). byte n ys) (sym here) ∙ sym (part_byte 0 16 ys k lt) ∙ ap (λ (r : List ℕ). get_or r k 0) same ∙ part_byte 0 16 xs k lt ∙ ap (λ (n : ℕ). byte n xs) here

elf_kept : (xs ys : List ℕ) → length ys ≡ length xs → part 0 16 ys ≡ part 0 16 xs → not_elf ys ≡ not_elf xs
unfolding not_elf
elf_kept xs ys size ident =
    rw (size, ident_byte xs ys 0 ident (omega arith), ident_byte xs ys 1 ident (omega arith), ident_byte xs ys 2 ident (omega arith), ident_byte xs ys 3 ident (omega arith)) refl

class_kept : (xs ys : List ℕ) → part 0 16 ys ≡ part 0 16 xs → other_class ys ≡ other_class xs
unfolding other_class
class_kept xs ys ident = rw (ident_byte xs ys 4 ident (omega arith), ident_byte xs ys 5 ident (omega arith), ident_byte xs ys 6 ident (omega arith)) refl

-- ---- segments

kind_kept : (at kind : ℕ) (s : Segment) → is_of_kind kind (fixed_segment at s) ≡ is_of_kind kind s
unfolding fixed_segment
kind_kept at kind s = refl

count_same : (at kind : ℕ) (ss : List Segment) → count_of_kind kind (map (fixed_segment at) ss) ≡ count_of_kind kind ss
count_same at kind ss = count_kept (is_of_kind kind) (is_of_kind kind) (fixed_segment at) ss (λ i d lt. kind_kept at kind _)

second_kept : (at : ℕ) (ss : List Segment) → has_second_of_a_kind (map (fixed_segment at) ss) ≡ has_second_of_a_kind ss
unfolding has_second_of_a_kind
second_kept at ss = rw (count_same at PT_DYNAMIC ss, count_same at PT_TLS ss, count_same at PT_INTERP ss) refl

passing_kept : (at : ℕ) (xs ys : List ℕ) (static : Bool) (s : Segment) → length ys ≡ length xs → segment_passes ys static (fixed_segment at s) ≡ segment_passes xs static s
unfolding fixed_segment
passing_kept at xs ys static s size = ap (λ (b : Bool). b && not (static && s.filesz == 0)) (passes_kept xs ys s.offset s.filesz size)

section_kept : (at : ℕ) (xs ys : List ℕ) (s : Section) → length ys ≡ length xs → section_passes ys (fixed_section at s) ≡ section_passes xs s
unfolding fixed_section
section_kept at xs ys s size = ap (λ (b : Bool). not (s.kind == 8) && b) (passes_kept xs ys s.offset s.size size)

windows_kept : (at : ℕ) (ss : List Segment) → load_windows (loads (map (fixed_segment at) ss)) ≡ load_windows (loads ss)
unfolding fixed_segment
windows_kept at [] = refl
windows_kept at (s ∷ ss) = elim (cases_Bool (is_load s)) [
  | inl load ↦ rw (load, windows_kept at ss) refl
  | inr other ↦ rw (other, windows_kept at ss) refl
]

align_kept : (at : ℕ) (s : Segment) → (fixed_segment at s).align ≡ s.align
unfolding fixed_segment
align_kept at s = refl

memsz_kept : (at : ℕ) (s : Segment) → (fixed_segment at s).memsz ≡ s.memsz
unfolding fixed_segment
memsz_kept at s = refl

-- ---- one PT_LOAD

-- what is asked of a PT_LOAD at an address that is a multiple of an alignment
pub record MayMove (at align : ℕ) (s : Segment) : Type 0 where
  pub within : s.align ≤ align
  pub ends : at + (s.vaddr + s.memsz) ≤ ADDRESS_LIMIT

moved_start : (at : ℕ) (s : Segment) → is_load s ≡ true → at + (s.vaddr + s.memsz) ≤ ADDRESS_LIMIT → (fixed_segment at s).vaddr ≡ s.vaddr + at
unfolding fixed_segment
moved_start at s load fits = rw (load_moves s load) (omega (arith, fits))

congruent_kept : (at align : ℕ) (s : Segment) → is_load s ≡ true → is_power_of_two align ≡ true → at % align ≡ 0 → MayMove at align s → bad_align s.align ≡ false → not_congruent (fixed_segment at s) ≡ not_congruent s
unfolding not_congruent bad_align fixed_segment
congruent_kept at align s load power aligned may fit = elim (cases_Bool (s.align == 0)) [
  | inl none ↦ rw none refl
  | inr some ↦
      let own : is_power_of_two s.align ≡ true = own_power some (rw some at fit) in
      let start : (fixed_segment at s).vaddr % s.align ≡ s.vaddr % s.align =
      ap (λ (n : ℕ). n % s.align) (moved_start at s load may.ends) ∙ remainder_kept s.vaddr at s.align align own power may.within aligned in
      ap (λ (n : ℕ). not (s.align == 0) && not (n == s.offset % s.align)) start
]
  where
    own_power : (s.align == 0) ≡ false → not (is_power_of_two s.align) ≡ false → is_power_of_two s.align ≡ true
    own_power some h = elim (cases_Bool (is_power_of_two s.align)) [
      | inl hit ↦ hit
      | inr miss ↦ absurd (false≢true (sym (rw miss at h)))
    ]

not_above : (a b : ℕ) → a ≤ b → nat_lt b a ≡ false
not_above a b le = grind (arith, nat_tests)

pub load_kept : (at align : ℕ) (s : Segment) → is_load s ≡ true → is_power_of_two align ≡ true → at % align ≡ 0 → MayMove at align s → bad_load s ≡ false → bad_load (fixed_segment at s) ≡ false
unfolding bad_load fixed_segment
load_kept at align s load power aligned may fine =
    let a = or_parts (nat_lt s.memsz s.filesz || bad_align s.align || nat_lt MAX_LOAD_ALIGN s.align || not_congruent s) (nat_lt ADDRESS_LIMIT (s.vaddr + s.memsz)) fine in
    let b = or_parts (nat_lt s.memsz s.filesz || bad_align s.align || nat_lt MAX_LOAD_ALIGN s.align) (not_congruent s) a.0 in
    let c = or_parts (nat_lt s.memsz s.filesz || bad_align s.align) (nat_lt MAX_LOAD_ALIGN s.align) b.0 in
    let d = or_parts (nat_lt s.memsz s.filesz) (bad_align s.align) c.0 in
    let congruent = congruent_kept at align s load power aligned may d.1 ∙ b.1 in
    let below : nat_lt ADDRESS_LIMIT ((if is_moved_kind s.kind then plus s.vaddr at else s.vaddr) + s.memsz) ≡ false = rw (load_moves s load) (not_above (plus s.vaddr at + s.memsz) ADDRESS_LIMIT (omega (arith, may.ends))) in
    or_from _ _ (or_from _ _ (or_from _ _ (or_from _ _ d.0 d.1) c.1) congruent) below

-- ---- all of them

pub all_fine : (at align : ℕ) (ss : List Segment) → is_power_of_two align ≡ true → at % align ≡ 0 → All (MayMove at align) (loads ss) → list_any (λ s. is_load s && bad_load s) ss ≡ false
    → list_any (λ s. is_load s && bad_load s) (map (fixed_segment at) ss) ≡ false
all_fine at align [] power aligned may none = refl
all_fine at align (s ∷ ss) power aligned may none =
    let q = or_parts (is_load s && bad_load s) (list_any (λ t. is_load t && bad_load t) ss) none in
    let m = loads_all (MayMove at align) s ss may in
    or_from _ _ (elim (cases_Bool (is_load s)) [
      | inl load ↦ rw (kind_kept at 1 s, load) (load_kept at align s load power aligned (m.0 load) (rw load at q.0))
      | inr other ↦ rw (kind_kept at 1 s, other) refl
    ]) (all_fine at align ss power aligned m.1 q.1)

pub ascend_moved : (at align low new : ℕ) (ss : List Segment) → All (MayMove at align) (loads ss) → new ≤ low + at → ascend_from low (loads ss) ≡ true → ascend_from new (loads (map (fixed_segment at) ss)) ≡ true
ascend_moved at align low new [] may le up = refl
ascend_moved at align low new (s ∷ ss) may le up =
    let m = loads_all (MayMove at align) s ss may in
    elim (cases_Bool (is_load s)) [
      | inl load ↦
          let q = and_parts (nat_le low s.vaddr) (ascend_from (s.vaddr + s.memsz) (loads ss)) (rw load at up) in
          let start = moved_start at s load (m.0 load).ends in
          let from : low ≤ s.vaddr = leb-true low s.vaddr q.0 in
          rw (kind_kept at 1 s, load, start, le-leb new (s.vaddr + at) (omega (arith, le, from))) (ascend_moved at align (s.vaddr + s.memsz) (s.vaddr + at + (fixed_segment at s).memsz) ss m.1 (same_end at s) q.1)
      | inr other ↦ rw (kind_kept at 1 s, other) (ascend_moved at align low new ss m.1 le (rw other at up))
    ]
  where
    same_end : (at : ℕ) (s : Segment) → s.vaddr + at + (fixed_segment at s).memsz ≤ s.vaddr + s.memsz + at
    same_end at s = let e = memsz_kept at s in omega (arith, e)

-- ---- what is asked of all of them

is_load_kept : (at : ℕ) (ss : List Segment) → list_any is_load (map (fixed_segment at) ss) ≡ list_any is_load ss
is_load_kept at ss = any_map is_load (fixed_segment at) ss ∙ any_same (λ s. is_load (fixed_segment at s)) is_load ss (kind_kept at 1)

tls_kept : (at : ℕ) (ss : List Segment) → list_any bad_tls (map (fixed_segment at) ss) ≡ list_any bad_tls ss
unfolding fixed_segment
tls_kept at ss = any_map bad_tls (fixed_segment at) ss ∙ any_same (λ s. bad_tls (fixed_segment at s)) bad_tls ss (λ s. refl)

overlap_kept : (at : ℕ) (ss : List Segment) → overlap_in_file (map (fixed_segment at) ss) ≡ overlap_in_file ss
unfolding overlap_in_file
overlap_kept at ss = ap any_share (windows_kept at ss)

pub segments_fine : (at align : ℕ) (h k : Header) (ss : List Segment) → k.phentsize ≡ h.phentsize → is_power_of_two align ≡ true → at % align ≡ 0 → All (MayMove at align) (loads ss) → bad_segment h ss ≡ false → bad_segment k (map (fixed_segment at) ss) ≡ false
unfolding bad_segment
segments_fine at align h k ss size power aligned may fine =
    let a = or_parts (not (h.phentsize == 56) || not (list_any is_load ss) || has_second_of_a_kind ss || list_any (λ s. is_load s && bad_load s) ss || not (ascend_from 0 (loads ss)) || overlap_in_file ss) (list_any bad_tls ss) fine in
    let b = or_parts (not (h.phentsize == 56) || not (list_any is_load ss) || has_second_of_a_kind ss || list_any (λ s. is_load s && bad_load s) ss || not (ascend_from 0 (loads ss))) (overlap_in_file ss) a.0 in
    let c = or_parts (not (h.phentsize == 56) || not (list_any is_load ss) || has_second_of_a_kind ss || list_any (λ s. is_load s && bad_load s) ss) (not (ascend_from 0 (loads ss))) b.0 in
    let d = or_parts (not (h.phentsize == 56) || not (list_any is_load ss) || has_second_of_a_kind ss) (list_any (λ s. is_load s && bad_load s) ss) c.0 in
    let e = or_parts (not (h.phentsize == 56) || not (list_any is_load ss)) (has_second_of_a_kind ss) d.0 in
    let f = or_parts (not (h.phentsize == 56)) (not (list_any is_load ss)) e.0 in
    let up : ascend_from 0 (loads (map (fixed_segment at) ss)) ≡ true = ascend_moved at align 0 0 ss may (omega arith) (true_of _ c.1) in
    or_from _ _ (or_from _ _ (or_from _ _ (or_from _ _ (or_from _ _ (or_from _ _ (ap (λ (n : ℕ). not (n == 56)) size ∙ f.0) (ap not (is_load_kept at ss) ∙ f.1)) (second_kept at ss ∙ e.1)) (all_fine at align ss power aligned may d.1)) (ap not up)) (overlap_kept at ss ∙ b.1)) (tls_kept at ss ∙ a.1)
  where
    true_of : (b : Bool) → not b ≡ false → b ≡ true
    true_of true h = refl
    true_of false h = absurd (false≢true (sym h))

-- ---- the whole

any_range : (f g : ℕ → Bool) (n : ℕ) → ((i : ℕ) → i < n → f i ≡ g i) → list_any f (range_with_len 0 n) ≡ list_any g (range_with_len 0 n)
any_range f g n same = sym (any_map (λ (b : Bool). b) f (range_with_len 0 n)) ∙ ap (list_any (λ (b : Bool). b)) (range_same f g 0 n (λ i lt. same i (omega (arith, lt)))) ∙ any_map (λ (b : Bool). b) g (range_with_len 0 n)

-- what the clauses look at of two files
pub record IsHead (at : ℕ) (p file : List ℕ) (h : Header) : Type 0 where
  pub size : length file ≡ length p
  pub head : header file ≡ fixed_header at h
  pub rows : (i : ℕ) → i < h.phnum → segment file (fixed_header at h) i ≡ fixed_segment at (segment p h i)
  pub segments : segments file (fixed_header at h) ≡ map (fixed_segment at) (segments p h)
  pub sections : sections file (fixed_header at h) ≡ map (fixed_section at) (sections p h)
  pub names : names file (fixed_header at h) ≡ names p h
  pub program : (h.kind == ET_EXEC) ≡ true

dynamic_kept : (at : ℕ) (p file : List ℕ) (h : Header) → IsHead at p file h → has_dynamic file (fixed_header at h) ≡ has_dynamic p h
unfolding has_dynamic is_seen_dynamic fixed_header
dynamic_kept at p file h is = any_range _ _ h.phnum (λ i lt.
    ap (λ (b : Bool). not b && is_of_kind PT_DYNAMIC (segment file (fixed_header at h) i)) (passes_kept p file (h.phoff + 56 * i) 56 is.size)
    ∙ ap (λ (s : Segment). not (passes p (h.phoff + 56 * i) 56) && is_of_kind PT_DYNAMIC s) (is.rows i lt) ∙ ap (λ (b : Bool). not (passes p (h.phoff + 56 * i) 56) && b) (kind_kept at PT_DYNAMIC (segment p h i)))

pub static_kept : (at : ℕ) (p file : List ℕ) (h : Header) → IsHead at p file h → is_static_file file (fixed_header at h) ≡ is_static_file p h
unfolding is_static_file fixed_header
static_kept at p file h is = ap (λ (b : Bool). h.kind == 2 && not b) (dynamic_kept at p file h is)

truncated_kept : (at : ℕ) (p file : List ℕ) (h : Header) → IsHead at p file h → truncated file (fixed_header at h) ≡ truncated p h
unfolding truncated fixed_header
truncated_kept at p file h is =
    let k = fixed_header at h in
    let some : list_any (segment_passes file (is_static_file file k)) (segments file k) ≡ list_any (segment_passes p (is_static_file p h)) (segments p h) =
    ap (λ (b : Bool). list_any (segment_passes file b) (segments file k)) (static_kept at p file h is)
    ∙ ap (list_any (segment_passes file (is_static_file p h))) is.segments
    ∙ any_map (segment_passes file (is_static_file p h)) (fixed_segment at) (segments p h)
    ∙ any_same (λ s. segment_passes file (is_static_file p h) (fixed_segment at s)) (segment_passes p (is_static_file p h)) (segments p h) (λ s. passing_kept at p file (is_static_file p h) s is.size) in
    let more : list_any (section_passes file) (sections file k) ≡ list_any (section_passes p) (sections p h) =
    ap (list_any (section_passes file)) is.sections ∙ any_map (section_passes file) (fixed_section at) (sections p h)
    ∙ any_same (λ s. section_passes file (fixed_section at s)) (section_passes p) (sections p h) (λ s. section_kept at p file s is.size) in
    ap (λ (b : Bool). b || passes file h.shoff (64 * h.shnum) || list_any (segment_passes file (is_static_file file k)) (segments file k) || list_any (section_passes file) (sections file k)) (passes_kept p file h.phoff (56 * h.phnum) is.size)
    ∙ ap (λ (b : Bool). passes p h.phoff (56 * h.phnum) || b || list_any (segment_passes file (is_static_file file k)) (segments file k) || list_any (section_passes file) (sections file k)) (passes_kept p file h.shoff (64 * h.shnum) is.size)
    ∙ ap (λ (b : Bool). passes p h.phoff (56 * h.phnum) || passes p h.shoff (64 * h.shnum) || b || list_any (section_passes file) (sections file k)) some
    ∙ ap (λ (b : Bool). passes p h.phoff (56 * h.phnum) || passes p h.shoff (64 * h.shnum) || list_any (segment_passes p (is_static_file p h)) (segments p h) || b) more

names_end : (at : ℕ) (ns : List ℕ) (ss : List Section) → list_any (λ s. not (has_end s.name ns)) (map (fixed_section at) ss) ≡ list_any (λ s. not (has_end s.name ns)) ss
unfolding fixed_section
names_end at ns ss = any_map (λ s. not (has_end s.name ns)) (fixed_section at) ss

sections_kept : (at : ℕ) (p file : List ℕ) (h : Header) → IsHead at p file h → bad_section file (fixed_header at h) (sections file (fixed_header at h)) ≡ bad_section p h (sections p h)
unfolding bad_section fixed_header
sections_kept at p file h is =
    ap (λ (b : Bool). not (h.shnum == 0) && (not (h.shentsize == 64) || nat_lt MAX_SECTIONS h.shnum || nat_le h.shnum h.shstrndx || b))
    (ap (λ (ns : List ℕ). list_any (λ s. not (has_end s.name ns)) (sections file (fixed_header at h))) is.names
    ∙ ap (list_any (λ s. not (has_end s.name (names p h)))) is.sections ∙ names_end at (names p h) (sections p h))

size_kept : (at : ℕ) (h : Header) → (fixed_header at h).phentsize ≡ h.phentsize
unfolding fixed_header
size_kept at h = refl

machine_kept : (at : ℕ) (h : Header) → other_machine (fixed_header at h) ≡ other_machine h
unfolding fixed_header
machine_kept at h = refl

count_kept_of : (at : ℕ) (h : Header) → no_sections (fixed_header at h) ≡ no_sections h
unfolding fixed_header
count_kept_of at h = refl

kind_fine : (at : ℕ) (file : List ℕ) (h : Header) → (h.kind == ET_EXEC) ≡ true → other_kind file (fixed_header at h) ≡ false
unfolding other_kind fixed_header
kind_fine at file h program = rw program refl

ident_kept : (at : ℕ) (p file : List ℕ) (h : Header) → header p ≡ h → header file ≡ fixed_header at h → part 0 16 file ≡ part 0 16 p
unfolding header fixed_header
ident_kept at p file h old new = ap (λ (x : Header). x.ident) new ∙ sym (ap (λ (x : Header). x.ident) old)

abbrev pub tests_of : List ℕ → Header → List (Bool × HeaderFault)
tests_of x y = (
    (not_elf x, NotElf) ∷ (other_class x, Class) ∷ (other_machine y, Machine) ∷ (other_kind x y, Kind)
    ∷ (truncated x y, Truncated) ∷ (bad_segment y (segments x y), BadSegment) ∷ (bad_section x y (sections x y), BadSection) ∷ (no_sections y, NoSections) ∷ [])

pub read_kept : (at align : ℕ) (p file : List ℕ) (h : Header) → IsHead at p file h → is_power_of_two align ≡ true → at % align ≡ 0 → All (MayMove at align) (loads (segments p h)) → read p ≡ Ok h → read file ≡ Ok (fixed_header at h)
unfolding read
read_kept at align p file h is power aligned may e =
    let k = fixed_header at h in
    let same : header p ≡ h = header_read p h (whole e) in
    let none : list_any (λ (row : Bool × HeaderFault). row.0) (tests_of p (header p)) ≡ false = refuse_none (tests_of p (header p)) (Ok (header p)) (ap (λ (r : Result Header HeaderFault). is_ok r) e) in
    let old : list_any (λ (row : Bool × HeaderFault). row.0) (tests_of p h) ≡ false = subst (λ (y : Header). list_any (λ (row : Bool × HeaderFault). row.0) (tests_of p y) ≡ false) same none in
    let a = or_parts (not_elf p) _ old in
    let b = or_parts (other_class p) _ a.1 in
    let c = or_parts (other_machine h) _ b.1 in
    let d = or_parts (other_kind p h) _ c.1 in
    let t = or_parts (truncated p h) _ d.1 in
    let g = or_parts (bad_segment h (segments p h)) _ t.1 in
    let n = or_parts (bad_section p h (sections p h)) _ g.1 in
    let m = or_parts (no_sections h) false n.1 in
    let ident = ident_kept at p file h same is.head in
    let fine : bad_segment k (segments file k) ≡ false = ap (bad_segment k) is.segments ∙ segments_fine at align h k (segments p h) (size_kept at h) power aligned may g.0 in
    let new : list_any (λ (row : Bool × HeaderFault). row.0) (tests_of file k) ≡ false =
    or_from _ _ (elf_kept p file is.size ident ∙ a.0) (or_from _ _ (class_kept p file ident ∙ b.0) (or_from _ _ (machine_kept at h ∙ c.0) (or_from _ _ (kind_fine at file h is.program)
    (or_from _ _ (truncated_kept at p file h is ∙ t.0) (or_from _ _ fine (or_from _ _ (sections_kept at p file h is ∙ n.0) (or_from _ _ (count_kept_of at h ∙ m.0) refl))))))) in
    refuse_next (tests_of file (header file)) (Ok (header file)) (subst (λ (y : Header). list_any (λ (row : Bool × HeaderFault). row.0) (tests_of file y) ≡ false) (sym is.head) new) ∙ ap (λ (y : Header). Ok y) is.head
  where
    whole : read p ≡ Ok h → read p ≡ Ok h
    whole q = q
