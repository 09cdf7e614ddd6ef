-- Where the tables of a fixed program stand: at the same bytes of the file, or nowhere as before.
use Rattle.std.proofs.Common.{◌≡◌, ℕ, ◌+◌, ◌^◌, ◌<◌, ◌≤◌, Bool, true, false, List, [], ◌∷◌, map, Option, Some, None, refl, sym, ap, subst, ◌∙◌, arith, inl, inr}
use Rattle.std.specs.Prelude.{◌⊎◌, ◌==◌, find, bit_and, is_some}
use Rattle.std.specs.List.{All}
use Rattle.std.specs.Option.{option_map}
use Rattle.std.proofs.lemmas.Bool.{cases_Bool, eqb-true}
use Rattle.std.proofs.lemmas.Bool.Decides.{nat_tests}
use Rattle.std.proofs.lemmas.List.Elements.{All-head, All-tail, All-nil, All-cons}
use Rattle.pl_base.specs.Sums.{plus}
use Rattle.pl_base.specs.Windows.{Window, within}
use Rattle.pl_base.proofs.FindLaws.{find_passes}
use Rattle.pl_dyn.specs.Kinds.{is_address_tag}
use Rattle.pl_dyn.specs.declared.constants.TheConstants.{DT_SYMTAB}
use Rattle.pl_dyn.specs.declared.tags.Tag.{Tag}
use Rattle.pl_elf.specs.Clauses.{AreLoads}
use Rattle.pl_elf.specs.Headers.{is_of_kind, is_moved_kind, loads, segment_of_kind}
use Rattle.pl_elf.specs.declared.constants.TheConstants.{ADDRESS_LIMIT, PT_DYNAMIC, SHF_ALLOC, SHT_DYNSYM}
use Rattle.pl_elf.specs.declared.section.Section.{Section}
use Rattle.pl_elf.specs.declared.segment.Segment.{Segment}
use Rattle.pl_object.specs.FilePart.{nothing, loader, loaded_by, file_window, in_file_part}
use Rattle.pl_object.specs.Reads.{span}
use Rattle.pl_object.specs.Tables.{has_tag, value, memory_of, dynamic_memory, tag_memory, symbols_memory, has_kind, section_size, begins_at, section_memory}
use Rattle.pl_object.proofs.SpanLaws.{Ends, span_ends}
use Rattle.pl_elf.proofs.AcceptedLaws.{LoadFits, loads_fit}
use Rattle.law_fixed.specs.Fixed.{fixed_segment, fixed_section}
use Rattle.law_fixed.specs.Stays.{moved_window, Stands}
use Rattle.law_fixed.proofs.ImageLaws.{loads_all}
use Rattle.law_fixed.proofs.StayLaws.{windows_stay}
use Rattle.pl_pie.proofs.RowOfLaws.{moved_tag}
use Rattle.pl_pie.proofs.TagLaws.{find_kept, has_moved, value_stays, value_moves}

-- ---- windows alike

-- the same bytes of the file, or none
abbrev pub Alike : Window → Window → Type 0
Alike new old = (new ≡ old) ⊎ ((new.size ≡ 0) × (old.size ≡ 0))

none_within : (w : Window) (xs : List ℕ) → w.size ≡ 0 → within w xs ≡ []
none_within w xs none = rw none refl

pub alike_within : (new old : Window) (xs : List ℕ) → Alike new old → within new xs ≡ within old xs
alike_within new old xs (inl same) = ap (λ (w : Window). within w xs) same
alike_within new old xs (inr none) = none_within new xs none.0 ∙ sym (none_within old xs none.1)

pub nothing_none : (ss : List Segment) → (file_window ss nothing).size ≡ 0
unfolding file_window
nothing_none ss = by (loader ss 0)
  where
    by : (m : Option Segment) → (loaded_by nothing m).size ≡ 0
    by None = refl
    by (Some s) = omega arith

-- ---- the program headers

pub segment_found : (at kind : ℕ) (ss : List Segment) → segment_of_kind kind (map (fixed_segment at) ss) ≡ option_map (fixed_segment at) (segment_of_kind kind ss)
unfolding fixed_segment
segment_found at kind ss = find_kept (is_of_kind kind) (is_of_kind kind) (fixed_segment at) ss (λ s. refl)

dynamic_moves : (s : Segment) → is_of_kind PT_DYNAMIC s ≡ true → is_moved_kind s.kind ≡ true
unfolding is_moved_kind
dynamic_moves s h = rw (eqb-true s.kind PT_DYNAMIC h) refl

pub dynamic_memory_moves : (at : ℕ) (ss : List Segment) → is_some (segment_of_kind PT_DYNAMIC ss) ≡ true → dynamic_memory (map (fixed_segment at) ss) ≡ moved_window at (dynamic_memory ss)
unfolding dynamic_memory fixed_segment
dynamic_memory_moves at ss there = ap memory_of (segment_found at PT_DYNAMIC ss) ∙ of_found (segment_of_kind PT_DYNAMIC ss) refl there
  where
    of_found : (m : Option Segment) → segment_of_kind PT_DYNAMIC ss ≡ m → is_some m ≡ true → memory_of (option_map (fixed_segment at) m) ≡ moved_window at (memory_of m)
    of_found None e h = absurd cc
    of_found (Some s) e h = rw (dynamic_moves s (find_passes (is_of_kind PT_DYNAMIC) ss s e)) refl

-- ---- windows by tags

module _ (at : ℕ) (ss : List Segment) (stands : All (Stands at) ss) where
  abbrev moved_segments : List Segment
  moved_segments = map (fixed_segment at) ss

  pub window_stays : (m : Window) → m.at < 2 ^ 64 → file_window moved_segments (moved_window at m) ≡ file_window ss m
  window_stays m below = windows_stay at ss m stands below

  pub held_stays : (m : Window) → m.at < 2 ^ 64 → in_file_part moved_segments (moved_window at m) ≡ in_file_part ss m
  unfolding in_file_part
  held_stays m below = ap (λ (w : Window). w.size == m.size) (window_stays m below)

  pub nothing_alike : Alike (file_window moved_segments nothing) (file_window ss nothing)
  nothing_alike = inr (nothing_none moved_segments, nothing_none ss)

  pub nothing_held : in_file_part moved_segments nothing ≡ in_file_part ss nothing
  unfolding in_file_part
  nothing_held = rw (nothing_none moved_segments, nothing_none ss) refl

  -- what is there in two tags, and the same where it moves
  pub tag_memory_is : (a z : ℕ) (ts : List Tag) → is_address_tag a ≡ true → is_address_tag z ≡ false
      → (tag_memory a z (map (moved_tag at) ts) ≡ moved_window at (tag_memory a z ts)) ⊎ ((tag_memory a z (map (moved_tag at) ts) ≡ nothing) × (tag_memory a z ts ≡ nothing))
  unfolding tag_memory
  tag_memory_is a z ts address plain = by (has_tag a ts) (has_tag z ts) refl refl
    where
      by : (x y : Bool) → has_tag a ts ≡ x → has_tag z ts ≡ y
          → (tag_memory a z (map (moved_tag at) ts) ≡ moved_window at (tag_memory a z ts)) ⊎ ((tag_memory a z (map (moved_tag at) ts) ≡ nothing) × (tag_memory a z ts ≡ nothing))
      by false y none other = inr (rw (has_moved at a ts, none) refl, rw none refl)
      by true false there none = inr (rw (has_moved at a ts, has_moved at z ts, there, none) refl, rw (there, none) refl)
      by true true there too = inl (rw (has_moved at a ts, has_moved at z ts, there, too, value_moves at a ts address there, value_stays at z ts plain) refl)

  pub tag_window : (a z : ℕ) (ts : List Tag) → is_address_tag a ≡ true → is_address_tag z ≡ false → (tag_memory a z ts).at < 2 ^ 64
      → Alike (file_window moved_segments (tag_memory a z (map (moved_tag at) ts))) (file_window ss (tag_memory a z ts))
  tag_window a z ts address plain below = elim (tag_memory_is a z ts address plain) [
    | inl moved ↦ inl (ap (file_window moved_segments) moved ∙ window_stays (tag_memory a z ts) below)
    | inr none ↦ subst (λ (m : Window). Alike (file_window moved_segments m) (file_window ss (tag_memory a z ts))) (sym none.0) (subst (λ (m : Window). Alike (file_window moved_segments nothing) (file_window ss m)) (sym none.1) nothing_alike)
  ]

  pub tag_held : (a z : ℕ) (ts : List Tag) → is_address_tag a ≡ true → is_address_tag z ≡ false → (tag_memory a z ts).at < 2 ^ 64
      → in_file_part moved_segments (tag_memory a z (map (moved_tag at) ts)) ≡ in_file_part ss (tag_memory a z ts)
  tag_held a z ts address plain below = elim (tag_memory_is a z ts address plain) [
    | inl moved ↦ ap (in_file_part moved_segments) moved ∙ held_stays (tag_memory a z ts) below
    | inr none ↦ ap (in_file_part moved_segments) none.0 ∙ nothing_held ∙ ap (in_file_part ss) (sym none.1)
  ]

-- ---- windows by sections

pub section_kind_kept : (at kind : ℕ) (s : Section) → has_kind kind (fixed_section at s) ≡ has_kind kind s
unfolding fixed_section
section_kind_kept at kind s = refl

size_kept : (at : ℕ) (m : Option Section) → section_size (option_map (fixed_section at) m) ≡ section_size m
unfolding fixed_section
size_kept at None = refl
size_kept at (Some s) = refl

pub symbols_memory_moves : (at : ℕ) (ts : List Tag) (secs : List Section) → is_address_tag DT_SYMTAB ≡ true → has_tag DT_SYMTAB ts ≡ true
    → symbols_memory (map (moved_tag at) ts) (map (fixed_section at) secs) ≡ moved_window at (symbols_memory ts secs)
unfolding symbols_memory
symbols_memory_moves at ts secs address there =
    rw (value_moves at DT_SYMTAB ts address there, find_kept (has_kind SHT_DYNSYM) (has_kind SHT_DYNSYM) (fixed_section at) secs (section_kind_kept at SHT_DYNSYM), size_kept at (find (has_kind SHT_DYNSYM) secs)) refl

pub sum_same : (at x y : ℕ) → x < 2 ^ 64 → y < 2 ^ 64 → (plus x at == plus y at) ≡ (x == y)
sum_same at x y a b = bool_same _ _ (λ h. grind (arith, nat_tests)) (λ h. grind (arith, nat_tests))
  where
    bool_same : (a b : Bool) → (a ≡ true → b ≡ true) → (b ≡ true → a ≡ true) → a ≡ b
    bool_same true true f g = refl
    bool_same false false f g = refl
    bool_same true false f g = sym (f refl)
    bool_same false true f g = g refl

pub begins_moved : (at address : ℕ) (s : Section) → address < 2 ^ 64 → s.addr < 2 ^ 64 → begins_at (plus address at) (fixed_section at s) ≡ begins_at address s
unfolding begins_at fixed_section
begins_moved at address s low there = elim (cases_Bool (bit_and s.flags SHF_ALLOC == 0)) [
  | inl unallocated ↦ rw unallocated refl
  | inr allocated ↦ rw (allocated, sum_same at s.addr address there low) refl
]

find_begins : (at address : ℕ) (secs : List Section) → address < 2 ^ 64 → All (λ s. s.addr < 2 ^ 64) secs → find (begins_at (plus address at)) (map (fixed_section at) secs) ≡ option_map (fixed_section at) (find (begins_at address) secs)
find_begins at address [] low all = refl
find_begins at address (s ∷ secs) low all =
    let same = begins_moved at address s low (All-head (λ x. x.addr < 2 ^ 64) s secs all) in
    let rest = find_begins at address secs low (All-tail (λ x. x.addr < 2 ^ 64) s secs all) in
    elim (cases_Bool (begins_at address s)) [
      | inl hit ↦ rw (same, hit) refl
      | inr miss ↦ rw (same, miss) rest
    ]

-- a table whose size a section tells
pub section_memory_is : (at number : ℕ) (ts : List Tag) (secs : List Section) → is_address_tag number ≡ true → value number ts < 2 ^ 64 → All (λ s. s.addr < 2 ^ 64) secs
    → (section_memory number (map (moved_tag at) ts) (map (fixed_section at) secs) ≡ moved_window at (section_memory number ts secs))
    ⊎ ((section_memory number (map (moved_tag at) ts) (map (fixed_section at) secs) ≡ nothing) × (section_memory number ts secs ≡ nothing))
unfolding section_memory
section_memory_is at number ts secs address low all = by (has_tag number ts) refl
  where
    by : (x : Bool) → has_tag number ts ≡ x
        → (section_memory number (map (moved_tag at) ts) (map (fixed_section at) secs) ≡ moved_window at (section_memory number ts secs))
        ⊎ ((section_memory number (map (moved_tag at) ts) (map (fixed_section at) secs) ≡ nothing) × (section_memory number ts secs ≡ nothing))
    by false none = inr (rw (has_moved at number ts, none) refl, rw none refl)
    by true there = inl (rw (has_moved at number ts, there, value_moves at number ts address there, find_begins at (value number ts) secs low all, size_kept at (find (begins_at (value number ts)) secs)) refl)

-- ---- where a program fits, its segments stand

stand_from : (at most : ℕ) (ss : List Segment) → at + most ≤ ADDRESS_LIMIT → All LoadFits (loads ss) → All (Ends most) (loads ss) → All (Stands at) ss
stand_from at most [] le fits ends = All-nil (Stands at)
stand_from at most (s ∷ ss) le fits ends =
    let f = loads_all LoadFits s ss fits in
    let e = loads_all (Ends most) s ss ends in
    All-cons (Stands at) s ss (record { file = λ load. (f.0 load).bytes; ends = λ load. omega (arith, e.0 load, le) }) (stand_from at most ss le f.1 e.1)

pub are_standing : (at : ℕ) (ss : List Segment) → AreLoads (loads ss) → at + span ss ≤ ADDRESS_LIMIT → All (Stands at) ss
are_standing at ss are le = stand_from at (span ss) ss le (loads_fit (loads ss) are.fit) (span_ends ss are)
