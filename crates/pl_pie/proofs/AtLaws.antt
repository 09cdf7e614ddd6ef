-- What is found of a position-independent program where it stands at an address: by it the fixed file is read.
use Rattle.std.proofs.Common.{◌≡◌, ℕ, zero, suc, ◌+◌, ◌%◌, ◌^◌, ◌<◌, ◌≤◌, false, List, [], ◌∷◌, map, take, Some, Ok, refl, subst, arith, inl, inr}
use Rattle.std.specs.List.{All, range_with_len, position_or_len}
use Rattle.std.proofs.lemmas.Bool.{cases_Bool, true≢false}
use Rattle.std.proofs.lemmas.List.Elements.{All-head, All-tail, All-nil, All-cons}
use Rattle.pl_base.specs.Bytes.{IsBytes}
use Rattle.pl_base.proofs.WordLaws.{word64_below, is_bytes_part}
use Rattle.pl_dyn.specs.Entries.{entries, entry, is_null, tags}
use Rattle.pl_dyn.specs.Read.{has_number, first_of, value_of}
use Rattle.pl_dyn.specs.declared.dynamic.Dynamic.{Dynamic}
use Rattle.pl_dyn.specs.declared.tags.Tag.{Tag}
use Rattle.pl_elf.specs.Clauses.{is_static_file}
use Rattle.pl_elf.specs.Headers.{is_of_kind, section, section_at, sections, segment, segment_at, segments}
use Rattle.pl_elf.specs.Kinds.{is_static}
use Rattle.pl_elf.specs.declared.constants.TheConstants.{ADDRESS_LIMIT, PT_DYNAMIC}
use Rattle.pl_elf.specs.declared.header.Header.{Header}
use Rattle.pl_elf.specs.declared.section.Section.{Section}
use Rattle.pl_elf.specs.declared.segment.Segment.{Segment}
use Rattle.pl_object.specs.Accepted.{tags_of}
use Rattle.pl_object.specs.FilePart.{loaded}
use Rattle.pl_object.specs.Reads.{check, dynamic, headers, layout, linking, object, reads, static_object}
use Rattle.pl_object.specs.TableClauses.{check_tables}
use Rattle.pl_object.specs.Tables.{dynamic_memory, link_windows, value}
use Rattle.pl_object.specs.declared.headers.Headers.{Headers}
use Rattle.pl_object.specs.declared.layout.Layout.{Layout}
use Rattle.pl_object.specs.declared.linking.Linking.{Linking}
use Rattle.pl_object.specs.declared.object.Object.{Object}
use Rattle.pl_object.proofs.AcceptedLaws.{IsDynamic, read_holds}
use Rattle.pl_object.proofs.TabledLaws.{table_is}
use Rattle.law_fixed.specs.Stays.{Stands}
use Rattle.pl_pie.specs.Pie.{as_program, pie}
use Rattle.pl_pie.proofs.AlignLaws.{align_even, slot_even}
use Rattle.pl_pie.proofs.MemoryLaws.{are_standing}
use Rattle.pl_pie.proofs.PieLaws.{IsPie, not_static, pie_is}
use Rattle.pl_pie.proofs.RebasedLaws.{rebased}
use Rattle.pl_pie.proofs.RowOfLaws.{moved_tag}
use Rattle.pl_pie.proofs.WordLaws.{typed_bytes}

-- ---- the parts of an object

abbrev pub headers_of : Object → Headers
headers_of x = record { header = x.header; segments = x.segments; sections = x.sections }

abbrev pub linking_of : Object → Linking
linking_of x = record { needed = x.needed; symbols = x.symbols; versions = x.versions }

abbrev pub layout_of : List Tag → Object → Layout
layout_of ts x = record { hashes = x.hashes; relocations = x.relocations; packed = x.packed; windows = link_windows x.header x.segments x.sections ts }

abbrev pub dynamic_of : List Tag → Object → Dynamic
dynamic_of ts x = record { tags = ts; spare = x.spare }

-- an object that is read by a dynamic table of these tags
pub record IsFound (p : List ℕ) (x : Object) (ts : List Tag) : Type 0 where
  pub plain : is_static_file p x.header ≡ false
  pub table : dynamic p x.segments ≡ Ok (dynamic_of ts x)
  pub tables : check_tables p x.header x.segments x.sections ts ≡ Ok tt
  pub names : linking p (headers_of x) ts ≡ Ok (linking_of x)
  pub places : layout p (headers_of x) ts (linking_of x) ≡ layout_of ts x
  pub checks : check p (headers_of x) ts (linking_of x) (layout_of ts x) ≡ Ok tt
  pub whole : object (headers_of x) (dynamic_of ts x) (linking_of x) (layout_of ts x) ≡ x

found_dynamic : (p : List ℕ) (h : Header) (d : Dynamic) (l : Linking) → IsDynamic p h d l → IsFound p (object (headers p h) d l (layout p (headers p h) d.tags l)) d.tags
unfolding object headers layout
found_dynamic p h d l is = record {
  plain = is.other;
  table = is.entries;
  tables = is.tables;
  names = is.names;
  places = refl;
  checks = is.checks;
  whole = refl;
}

tags_are : (p : List ℕ) (h : Header) (d : Dynamic) (l : Linking) → IsDynamic p h d l → d.tags ≡ tags_of p (object (headers p h) d l (layout p (headers p h) d.tags l))
unfolding object headers
tags_are p h d l is = (table_is p (segments p h) d is.entries).tags

pub found_is : (p : List ℕ) (x : Object) → reads p ≡ Ok x → is_static x.kind ≡ false → IsFound p x (tags_of p x)
unfolding static_object
found_is p x e other =
    read_holds (λ (y : Object). is_static y.kind ≡ false → IsFound p y (tags_of p y)) p (λ h s no. absurd (true≢false no))
    (λ h d l is no. subst (λ (ts : List Tag). IsFound p (object (headers p h) d l (layout p (headers p h) d.tags l)) ts) (tags_are p h d l is) (found_dynamic p h d l is)) x e other

-- ---- words of a file are below 2^64

map_all : {X : Type 0} (P : X → Type 0) (f : ℕ → X) → ((i : ℕ) → P (f i)) → (is : List ℕ) → All P (map f is)
map_all P f each [] = All-nil P
map_all P f each (i ∷ is) = All-cons P (f i) (map f is) (each i) (map_all P f each is)

take_all_of : {X : Type 0} (P : X → Type 0) (k : ℕ) (xs : List X) → All P xs → All P (take k xs)
take_all_of P zero xs all = All-nil P
take_all_of P (suc k) [] all = All-nil P
take_all_of P (suc k) (x ∷ xs) all = All-cons P x (take k xs) (All-head P x xs all) (take_all_of P k xs (All-tail P x xs all))

abbrev IsLow : Tag → Type 0
IsLow t = t.value < 2 ^ 64

tags_low : (table : List ℕ) → IsBytes table → All IsLow (tags table)
unfolding tags entries
tags_low table bytes = take_all_of IsLow (position_or_len is_null (entries table)) (entries table) (map_all IsLow (entry table) (λ i. word64_below _ table bytes) (range_with_len 0 _))

value_low : (number : ℕ) (ts : List Tag) → All IsLow ts → value number ts < 2 ^ 64
unfolding value_of first_of
value_low number [] all = omega arith
value_low number (t ∷ ts) all = elim (cases_Bool (has_number number t)) [
  | inl hit ↦ rw hit (All-head IsLow t ts all)
  | inr miss ↦ rw miss (value_low number ts (All-tail IsLow t ts all))
]

sections_low : (p : List ℕ) (h : Header) → IsBytes p → All (λ (s : Section). s.addr < 2 ^ 64) (sections p h)
unfolding sections section_at
sections_low p h bytes = map_all (λ (s : Section). s.addr < 2 ^ 64) (section p h) (λ i. word64_below _ p bytes) (range_with_len 0 h.shnum)

segments_low : (p : List ℕ) (h : Header) → IsBytes p → All (λ (s : Segment). s.vaddr < 2 ^ 64) (segments p h)
unfolding segments segment_at
segments_low p h bytes = map_all (λ (s : Segment). s.vaddr < 2 ^ 64) (segment p h) (λ i. word64_below _ p bytes) (range_with_len 0 h.phnum)

memory_low : (ss : List Segment) → All (λ (s : Segment). s.vaddr < 2 ^ 64) ss → (dynamic_memory ss).at < 2 ^ 64
unfolding dynamic_memory
memory_low [] all = omega arith
memory_low (s ∷ ss) all = elim (cases_Bool (is_of_kind PT_DYNAMIC s)) [
  | inl hit ↦ rw hit (All-head (λ (t : Segment). t.vaddr < 2 ^ 64) s ss all)
  | inr miss ↦ rw miss (memory_low ss (All-tail (λ (t : Segment). t.vaddr < 2 ^ 64) s ss all))
]

-- ---- the program at the address, and the fixed file

-- the fixed file, and its tags
abbrev pub file_at : ℕ → Object → List ℕ → List ℕ
file_at at o bytes = rebased at o (as_program bytes)

abbrev pub old_tags : List ℕ → Object → List Tag
old_tags bytes o = tags_of (as_program bytes) o

abbrev pub new_tags : ℕ → List ℕ → Object → List Tag
new_tags at bytes o = map (moved_tag at) (old_tags bytes o)

-- a position-independent program, at an address where it stands
pub record IsAt (bytes : List ℕ) (o : Object) (at : ℕ) : Type 0 where
  pub pie : IsPie bytes o
  pub other : is_static o.kind ≡ false
  pub are_bytes : IsBytes (as_program bytes)
  pub even : at % 2 ≡ 0
  pub ends : at + o.span ≤ ADDRESS_LIMIT
  pub stands : All (Stands at) o.segments
  pub low : (dynamic_memory o.segments).at < 2 ^ 64
  pub values : (number : ℕ) → value number (old_tags bytes o) < 2 ^ 64
  pub addresses : All (λ s. s.addr < 2 ^ 64) o.sections
  pub plain : is_static_file (as_program bytes) o.header ≡ false
  pub table : dynamic (as_program bytes) o.segments ≡ Ok (dynamic_of (old_tags bytes o) o)
  pub tables : check_tables (as_program bytes) o.header o.segments o.sections (old_tags bytes o) ≡ Ok tt
  pub names : linking (as_program bytes) (headers_of o) (old_tags bytes o) ≡ Ok (linking_of o)
  pub places : layout (as_program bytes) (headers_of o) (old_tags bytes o) (linking_of o) ≡ layout_of (old_tags bytes o) o
  pub checks : check (as_program bytes) (headers_of o) (old_tags bytes o) (linking_of o) (layout_of (old_tags bytes o) o) ≡ Ok tt
  pub whole : object (headers_of o) (dynamic_of (old_tags bytes o) o) (linking_of o) (layout_of (old_tags bytes o) o) ≡ o

pub is_at : (bytes : List ℕ) (o : Object) (at : ℕ) → IsBytes bytes → pie bytes ≡ Some o → at % o.align ≡ 0 → at + o.span ≤ ADDRESS_LIMIT → IsAt bytes o at
unfolding loaded
is_at bytes o at are some aligned ends =
    let is : IsPie bytes o = pie_is bytes o some in
    let p : List ℕ = as_program bytes in
    let b : IsBytes p = typed_bytes 2 bytes are in
    let other : is_static o.kind ≡ false = not_static o.kind is.program in
    let found = found_is p o is.read other in
    record {
      pie = is;
      other = other;
      are_bytes = b;
      even = slot_even at o.align (align_even p o is.accepted) aligned;
      ends = ends;
      stands = are_standing at o.segments is.accepted.loads (subst (λ (n : ℕ). at + n ≤ ADDRESS_LIMIT) is.accepted.span ends);
      low = memory_low o.segments (subst (All (λ (s : Segment). s.vaddr < 2 ^ 64)) is.accepted.head.segments (segments_low p o.header b));
      values = λ number. value_low number (old_tags bytes o) (tags_low _ (is_bytes_part _ _ p b));
      addresses = subst (All (λ (s : Section). s.addr < 2 ^ 64)) is.accepted.head.sections (sections_low p o.header b);
      plain = found.plain;
      table = found.table;
      tables = found.tables;
      names = found.names;
      places = found.places;
      checks = found.checks;
      whole = found.whole;
    }
