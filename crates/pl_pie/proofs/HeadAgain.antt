-- What a fixed file has of a file that acceptance clauses 1 to 8 take.
use Rattle.std.proofs.Common.{◌≡◌, ℕ, suc, ◌+◌, ◌%◌, ◌<◌, ◌≤◌, Bool, true, false, List, [], ◌∷◌, ◌++◌, length, map, get_or, Option, Some, Result, Ok, refl, sym, ap, subst, ◌∙◌, arith}
use Rattle.std.specs.Prelude.{◌||◌, ◌==◌, not, nat_le, nat_lt, max, fold, slice_get, if◌then◌else◌}
use Rattle.std.specs.List.{All, list_any, range_with_len}
use Rattle.std.specs.Result.{is_ok}
use Rattle.std.proofs.lemmas.Bool.{or_parts, false≢true}
use Rattle.std.proofs.lemmas.Bool.Decides.{nat_tests}
use Rattle.std.proofs.lemmas.List.{length-map}
use Rattle.std.proofs.lemmas.List.FromFn.{get_or-map-range_with_len, length-range_with_len}
use Rattle.std.proofs.lemmas.List.Elements.{All-cons, All-head, All-nil, All-tail}
use Rattle.pl_base.specs.Answers.{because}
use Rattle.pl_base.specs.Bytes.{part}
use Rattle.pl_base.specs.Windows.{Window, within}
use Rattle.pl_base.proofs.AnswerLaws.{because_ok, bind_ok, refuse_none}
use Rattle.pl_elf.specs.Clauses.{bad_section, bad_segment, names, no_sections, not_elf, other_class, other_kind, other_machine, read, section_data, truncated}
use Rattle.pl_elf.specs.Headers.{header, loads, section, sections, segments}
use Rattle.pl_elf.specs.Kinds.{is_program, is_static}
use Rattle.pl_elf.specs.declared.kind.Kind.TheVariants.{Program, Library}
use Rattle.pl_base.specs.Strings.{has_end}
use Rattle.pl_elf.specs.declared.constants.TheConstants.{ADDRESS_LIMIT, ET_EXEC, MAX_SECTIONS}
use Rattle.pl_elf.specs.declared.fault.HeaderFault.{HeaderFault}
use Rattle.pl_elf.specs.declared.header.Header.{Header}
use Rattle.pl_elf.specs.declared.section.Section.{Section}
use Rattle.pl_elf.specs.declared.segment.Segment.{Segment}
use Rattle.pl_object.specs.Reads.{align, headers, object, parts, reads, span, static_object}
use Rattle.pl_object.specs.Refusals.{of_header}
use Rattle.pl_object.specs.Tables.{section_window}
use Rattle.pl_object.specs.declared.object.Object.{Object}
use Rattle.pl_object.proofs.AcceptedLaws.{read_holds}
use Rattle.pl_object.proofs.ExtentLaws.{header_read}
use Rattle.pl_object.proofs.SpanLaws.{Ends, span_ends}
use Rattle.law_fixed.specs.Fixed.{fixed, fixed_header, fixed_section, fixed_segment}
use Rattle.pl_pie.specs.Fix.{fixed_bytes}
use Rattle.pl_pie.specs.Pie.{as_program, kept_windows, named_windows, pie, window_if}
use Rattle.pl_object.specs.Named.{strings_of}
use Rattle.pl_pie.proofs.AlignLaws.{align_even, align_power, slot_even}
use Rattle.pl_pie.proofs.BearLaws.{file_bears}
use Rattle.pl_pie.proofs.HeadClauses.{IsHead, MayMove, read_kept, tests_of}
use Rattle.pl_pie.proofs.PieLaws.{IsPie, not_static, pie_is}
use Rattle.pl_pie.proofs.RebasedLaws.{one_section, one_segment, rebased, rebased_length, slice_get_at}
use Rattle.pl_pie.proofs.UnmetLaws.{kept_within}

-- ---- what clauses 1 to 8 say of an accepted file

-- they take it
pub head_taken : (p : List ℕ) (o : Object) → reads p ≡ Ok o → header p ≡ o.header → read p ≡ Ok o.header
unfolding reads
head_taken p o e same =
    let a = bind_ok (because of_header (read p)) (λ h. parts p (headers p h)) o e in
    let taken : read p ≡ Ok a.0 = because_ok of_header (read p) a.0 a.1 in
    let one : a.0 ≡ o.header = sym (header_read p a.0 taken) ∙ same in
    taken ∙ ap (λ (h : Header). Ok h) one

-- so no test of theirs holds
none_hold : (p : List ℕ) (h : Header) → read p ≡ Ok h → list_any (λ (row : Bool × HeaderFault). row.0) (tests_of p h) ≡ false
unfolding read
none_hold p h e =
    let same : header p ≡ h = header_read p h e in
    subst (λ (y : Header). list_any (λ (row : Bool × HeaderFault). row.0) (tests_of p y) ≡ false) same (refuse_none (tests_of p (header p)) (Ok (header p)) (ap (λ (r : Result Header HeaderFault). is_ok r) e))

pub record Passed (p : List ℕ) (h : Header) : Type 0 where
  pub section : bad_section p h (sections p h) ≡ false
  pub sections : (h.shnum == 0) ≡ false

pub passed : (p : List ℕ) (h : Header) → read p ≡ Ok h → Passed p h
passed p h e =
    let none = none_hold p h e in
    let a = or_parts (not_elf p) _ none in
    let b = or_parts (other_class p) _ a.1 in
    let c = or_parts (other_machine h) _ b.1 in
    let d = or_parts (other_kind p h) _ c.1 in
    let t = or_parts (truncated p h) _ d.1 in
    let g = or_parts (bad_segment h (segments p h)) _ t.1 in
    let n = or_parts (bad_section p h (sections p h)) _ g.1 in
    let m = or_parts (no_sections h) false n.1 in
    record { section = n.0; sections = m.0 }

-- the section of section names is one of the table
below : (n k : ℕ) → nat_le n k ≡ false → k < n
below n k h = grind (arith, nat_tests)

pub names_below : (p : List ℕ) (h : Header) → read p ≡ Ok h → h.shstrndx < h.shnum
unfolding bad_section
names_below p h e =
    let w = passed p h e in
    let all : (not (h.shentsize == 64) || nat_lt MAX_SECTIONS h.shnum || nat_le h.shnum h.shstrndx || list_any (λ s. not (has_end s.name (names p h))) (sections p h)) ≡ false = rw w.sections at w.section in
    let first = or_parts (not (h.shentsize == 64) || nat_lt MAX_SECTIONS h.shnum || nat_le h.shnum h.shstrndx) (list_any (λ s. not (has_end s.name (names p h))) (sections p h)) all in
    let second = or_parts (not (h.shentsize == 64) || nat_lt MAX_SECTIONS h.shnum) (nat_le h.shnum h.shstrndx) first.0 in
    below h.shnum h.shstrndx second.1

-- ---- the type

of_kind : (b : Bool) → is_program (if b then Program else Library) ≡ true → b ≡ true
of_kind true h = refl
of_kind false h = absurd (false≢true h)

pub type_is : (p : List ℕ) (o : Object) → reads p ≡ Ok o → is_program o.kind ≡ true → (o.header.kind == ET_EXEC) ≡ true
unfolding static_object object headers
type_is p o e = read_holds (λ (y : Object). is_program y.kind ≡ true → (y.header.kind == ET_EXEC) ≡ true) p (λ h s program. absurd (false≢true program)) (λ h d l s program. of_kind (h.kind == ET_EXEC) program) o e

-- ---- the PT_LOADs may be moved

most_fold : (ss : List Segment) (most : ℕ) → most ≤ fold (λ (m : ℕ) (s : Segment). max m s.align) most ss
most_fold [] most = omega arith
most_fold (s ∷ ss) most = omega (arith, most_fold ss (max most s.align))

aligns : (ss : List Segment) (most : ℕ) → All (λ (s : Segment). s.align ≤ fold (λ (m : ℕ) (t : Segment). max m t.align) most ss) ss
aligns ss most = from ss most (fold (λ (m : ℕ) (t : Segment). max m t.align) most ss) refl
  where
    from : (ts : List Segment) (m all : ℕ) → fold (λ (k : ℕ) (t : Segment). max k t.align) m ts ≡ all → All (λ (s : Segment). s.align ≤ all) ts
    from [] m all is = All-nil (λ (s : Segment). s.align ≤ all)
    from (t ∷ ts) m all is = All-cons (λ (s : Segment). s.align ≤ all) t ts (omega (arith, most_fold ts (max m t.align), is)) (from ts (max m t.align) all is)

may_all : (at most align : ℕ) (ts : List Segment) → at + most ≤ ADDRESS_LIMIT → All (Ends most) ts → All (λ (s : Segment). s.align ≤ align) ts → All (MayMove at align) ts
may_all at most align [] le e a = All-nil (MayMove at align)
may_all at most align (t ∷ ts) le e a =
    let one = All-head (Ends most) t ts e in
    All-cons (MayMove at align) t ts (record { within = All-head (λ (s : Segment). s.align ≤ align) t ts a; ends = omega (arith, one, le) })
    (may_all at most align ts le (All-tail (Ends most) t ts e) (All-tail (λ (s : Segment). s.align ≤ align) t ts a))

-- ---- the window of section names is the last of those that are kept

at_end : (xs : List Window) (y d : Window) → get_or (xs ++ y ∷ []) (length xs) d ≡ y
at_end [] y d = refl
at_end (x ∷ xs) y d = at_end xs y d

in_front : (xs : List Window) (y : Window) → length xs < length (xs ++ y ∷ [])
in_front [] y = omega arith
in_front (x ∷ xs) y = let rest = in_front xs y in omega (arith, rest)

last_kept : (o : Object) (s : Section) (d : Window) → slice_get o.sections o.header.shstrndx ≡ Some s
    → (get_or (kept_windows o) (suc (length (named_windows o))) d ≡ section_window s) × (suc (length (named_windows o)) < length (kept_windows o))
unfolding kept_windows
last_kept o s d there = (
  ap (λ (m : Option Section). get_or (strings_of o ∷ named_windows o ++ window_if m) (suc (length (named_windows o))) d) there ∙ at_end (named_windows o) (section_window s) d,
  subst (λ (m : Option Section). suc (length (named_windows o)) < length (strings_of o ∷ named_windows o ++ window_if m)) (sym there) (let few = in_front (named_windows o) (section_window s) in omega (arith, few)),
)

-- ---- the fixed file

module _ (bytes : List ℕ) (o : Object) (at : ℕ) (some : pie bytes ≡ Some o) (aligned : at % o.align ≡ 0) (ends : at + o.span ≤ ADDRESS_LIMIT) where
  is : IsPie bytes o
  is = pie_is bytes o some

  abbrev p : List ℕ
  p = as_program bytes

  abbrev h : Header
  h = o.header

  abbrev file : List ℕ
  file = rebased at o p

  other : is_static o.kind ≡ false
  other = not_static o.kind is.program

  even : at % 2 ≡ 0
  even = slot_even at o.align (align_even p o is.accepted) aligned

  taken : read p ≡ Ok h
  taken = head_taken p o is.read is.accepted.head.header

  few : h.shstrndx < h.shnum
  few = names_below p h taken

  there : slice_get o.sections h.shstrndx ≡ Some (section p h h.shstrndx)
  unfolding sections
  there =
      let count : length (sections p h) ≡ h.shnum = length-map (range_with_len 0 h.shnum) _ ∙ length-range_with_len 0 h.shnum in
      ap (λ (ss : List Section). slice_get ss h.shstrndx) (sym is.accepted.head.sections)
      ∙ slice_get_at (sections p h) h.shstrndx (section p h 0) (omega (arith, count, few))
      ∙ ap (λ (x : Section). Some x) (get_or-map-range_with_len (section p h) 0 h.shnum h.shstrndx h.shstrndx (section p h 0) few (omega arith))

  names_within : within (section_window (section p h h.shstrndx)) file ≡ within (section_window (section p h h.shstrndx)) p
  names_within =
      let d : Window = record { at = 0; size = 0 } in
      let last = last_kept o (section p h h.shstrndx) d there in
      subst (λ (w : Window). within w file ≡ within w p) last.0 (kept_within bytes o at (suc (length (named_windows o))) d is even last.1)

  names_by : (b : Bool) → (if b then [] else part (section p h h.shstrndx).offset (section p h h.shstrndx).size file) ≡ (if b then [] else part (section p h h.shstrndx).offset (section p h h.shstrndx).size p)
  names_by true = refl
  names_by false = names_within

  pub names_same : names file (fixed_header at h) ≡ names p h
  unfolding fixed_header section_data fixed_section
  names_same = ap (section_data file) (one_section at p o is.accepted other h.shstrndx few) ∙ names_by ((section p h h.shstrndx).kind == 8)

  may : All (MayMove at o.align) (loads (segments p h))
  unfolding align
  may =
      let size : at + span o.segments ≤ ADDRESS_LIMIT = subst (λ (n : ℕ). at + n ≤ ADDRESS_LIMIT) is.accepted.span ends in
      let own : All (λ (s : Segment). s.align ≤ o.align) (loads o.segments) = subst (λ (n : ℕ). All (λ (s : Segment). s.align ≤ n) (loads o.segments)) (sym is.accepted.align) (aligns (loads o.segments) 4096) in
      subst (λ (ss : List Segment). All (MayMove at o.align) (loads ss)) (sym is.accepted.head.segments) (may_all at (span o.segments) o.align (loads o.segments) size (span_ends o.segments is.accepted.loads) own)

  pub is_head : IsHead at p file h
  unfolding fixed_bytes fixed fixed_header
  is_head =
      let bears = file_bears at o bytes some in
      record {
        size = rebased_length at p o is.accepted other;
        head = bears.header;
        rows = λ i lt. one_segment at p o is.accepted other i lt;
        segments = bears.segments ∙ ap (map (fixed_segment at)) (sym is.accepted.head.segments);
        sections = bears.sections ∙ ap (map (fixed_section at)) (sym is.accepted.head.sections);
        names = names_same;
        program = type_is p o is.read is.program;
      }

  -- clauses 1 to 8 take the fixed file, with the fixed header
  pub file_taken : read file ≡ Ok (fixed_header at h)
  file_taken = read_kept at o.align p file h is_head (align_power p o is.accepted) aligned may taken
