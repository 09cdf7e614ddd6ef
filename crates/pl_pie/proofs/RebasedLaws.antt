-- What stands in the header, the header tables and the link tables of a fixed file.
use Rattle.std.proofs.Common.{◌≡◌, ℕ, zero, suc, ◌+◌, ◌*◌, ◌/◌, ◌<◌, ◌≤◌, Bool, true, false, List, [], ◌∷◌, ◌++◌, length, map, get_or, Some, refl, sym, ap, subst, ◌∙◌, arith}
use Rattle.std.specs.Prelude.{◌==◌, not, slice_get, bit_and, if◌then◌else◌}
use Rattle.std.specs.List.{range_with_len}
use Rattle.std.proofs.lemmas.Bool.{eqb-true}
use Rattle.std.proofs.lemmas.List.{length-map}
use Rattle.std.proofs.lemmas.List.FromFn.{length-range_with_len, get_or-map-range_with_len}
use Rattle.pl_base.specs.Bytes.{part, word64}
use Rattle.pl_base.specs.Windows.{Window, within, IsIn, AllIn, IsApart}
use Rattle.pl_base.proofs.WindowLaws.{AreAllApart, apart_turned, length-within, part_part, length-part}
use Rattle.pl_base.proofs.WordLaws.{word64_part}
use Rattle.pl_elf.specs.Headers.{header, section, segment_at, section_at, segments, sections}
use Rattle.pl_elf.specs.Kinds.{is_static}
use Rattle.pl_elf.specs.declared.constants.TheConstants.{SHF_ALLOC}
use Rattle.pl_elf.specs.declared.header.Header.{Header}
use Rattle.pl_elf.specs.declared.section.Section.{Section}
use Rattle.pl_object.specs.Accepted.{Accepted, IsTabled, tags_of}
use Rattle.pl_object.specs.Named.{dynamic_of, symbols_of, rela_of, jmprel_of, packed_of}
use Rattle.pl_object.specs.Tables.{header_window, segments_window, sections_window, is_allocated}
use Rattle.pl_object.specs.declared.object.Object.{Object}
use Rattle.pl_move.specs.Moves.{add8, rows, row_moved, all_moved}
use Rattle.pl_move.specs.Objects.{main_tables, tables_of, LieIn}
use Rattle.pl_move.specs.declared.kind.RowKind.TheVariants.{Entry, SegmentAddress, PhysicalAddress, TagValue, SymbolValue, RelocationPlace, RelativeAddend, PackedAddress}
use Rattle.pl_move.proofs.MoveLaws.{length-row_moved, length-rows, length-all_moved}
use Rattle.pl_move.proofs.ObjectLaws.{tables_in, window_in}
use Rattle.pl_form.proofs.HeadLaws.{header_part, segment_part, section_part}
use Rattle.law_fixed.specs.Fixed.{fixed_entry, fixed_header, fixed_section, fixed_segment}
use Rattle.pl_pie.specs.Words.{passes, is_address, section_words, undefined_words, packed_words, other_words}
use Rattle.pl_pie.specs.Fix.{added, word_windows}
use Rattle.pl_pie.proofs.WordLaws.{length-added}
use Rattle.pl_pie.proofs.InsideLaws.{symbols_size, words_in}
use Rattle.pl_pie.proofs.ContentLaws.{turned, within_added, added-append, added_row, row_at, row_room}
use Rattle.pl_pie.proofs.OwnLaws.{all_windows, all_apart, AreSized, are_sized, within_tables, told_header, told_segments, told_sections, told_dynamic, told_symbols, told_rela, told_jmprel, told_packed, sections_apart, undefined_apart, packed_apart}
use Rattle.pl_pie.proofs.RowOfLaws.{header_moved, segment_moved, section_moved, symbol_row, range_same, range_mapped}

pub slice_get_at : {X : Type 0} (xs : List X) (i : ℕ) (d : X) → i < length xs → slice_get xs i ≡ Some (get_or xs i d)
slice_get_at [] i d lt = absurd (omega (arith, lt))
slice_get_at (x ∷ xs) zero d lt = refl
slice_get_at (x ∷ xs) (suc i) d lt = slice_get_at xs i d (omega (arith, lt))

-- ---- a header without an entry

fixed_none : (at : ℕ) (h : Header) → (h.entry == 0) ≡ true → fixed_header at h ≡ h
unfolding fixed_header fixed_entry
fixed_none at h none =
    let e : 0 ≡ h.entry = sym (eqb-true h.entry 0 none) in
    rw none (ap (λ (n : ℕ). record {
      ident = h.ident;
      kind = h.kind;
      machine = h.machine;
      version = h.version;
      entry = n;
      phoff = h.phoff;
      shoff = h.shoff;
      flags = h.flags;
      ehsize = h.ehsize;
      phentsize = h.phentsize;
      phnum = h.phnum;
      shentsize = h.shentsize;
      shnum = h.shnum;
      shstrndx = h.shstrndx;
    }) e)

-- ---- the file

-- a file with the address added to the words of its tables and to the others
abbrev pub rebased : ℕ → Object → List ℕ → List ℕ
rebased at o p = added at (other_words o) (all_moved at (tables_of o) p)

all_parts : (n : ℕ) (xs ys : List ℕ) → AllIn n (word_windows (xs ++ ys)) → AllIn n (word_windows xs) × AllIn n (word_windows ys)
all_parts n [] ys h = (tt, h)
all_parts n (x ∷ xs) ys h = let r = all_parts n xs ys h.1 in ((h.0, r.0), r.1)

apart_both : (v : Window) (xs ys : List ℕ) → IsApart v (word_windows xs) → IsApart v (word_windows ys) → IsApart v (word_windows (xs ++ ys))
apart_both v [] ys a b = b
apart_both v (x ∷ xs) ys a b = (a.0, apart_both v xs ys a.1 b)

module _ (at : ℕ) (p : List ℕ) (o : Object) (is : Accepted p o) (other : is_static o.kind ≡ false) where
  abbrev t : IsTabled p o (tags_of p o)
  t = is.tabled other

  a : AreAllApart (all_windows o)
  a = all_apart p o (tags_of p o) (is.tabled other)

  s : AreSized o
  s = are_sized p o is other

  lie : LieIn (length p) o
  lie = tables_in p o is other

  abbrev moved_tables : List ℕ
  moved_tables = all_moved at (tables_of o) p

  same_length : length moved_tables ≡ length p
  same_length = length-all_moved at (tables_of o) p lie

  -- a window without other words
  no_words : (v : Window) → IsIn (length p) v → IsApart v (word_windows (section_words o)) → IsApart v (word_windows (undefined_words o)) → IsApart v (word_windows (packed_words o)) → within v (rebased at o p) ≡ within v moved_tables
  unfolding other_words
  no_words v inside x y z =
      let fits : AllIn (length moved_tables) (word_windows (other_words o)) = rw same_length (words_in p o is other) in
      within_added at (other_words o) v moved_tables fits (omega (arith, inside, same_length))
      (apart_both v (section_words o ++ undefined_words o) (packed_words o) (apart_both v (section_words o) (undefined_words o) x y) z)

  inside_of : (m v : Window) → v ≡ m → IsIn (length p) m → IsIn (length p) v
  inside_of m v e h = subst (λ (w : Window). IsIn (length p) w) (sym e) h

  header_in : IsIn (length p) header_window
  header_in = omega (arith, is.head.long)

  segments_in : IsIn (length p) (segments_window o.header)
  segments_in = omega (arith, is.head.segments_in)

  sections_in : IsIn (length p) (sections_window o.header)
  sections_in = omega (arith, is.head.sections_in)

  dynamic_in : IsIn (length p) (dynamic_of o)
  dynamic_in = window_in p o (tags_of p o) _ (dynamic_of o) t t.named.dynamic

  symbols_in : IsIn (length p) (symbols_of o)
  symbols_in = window_in p o (tags_of p o) _ (symbols_of o) t t.named.symbols

  rela_in : IsIn (length p) (rela_of o)
  rela_in = window_in p o (tags_of p o) _ (rela_of o) t t.named.rela

  jmprel_in : IsIn (length p) (jmprel_of o)
  jmprel_in = window_in p o (tags_of p o) _ (jmprel_of o) t t.named.jmprel

  packed_in : IsIn (length p) (packed_of o)
  packed_in = window_in p o (tags_of p o) _ (packed_of o) t t.named.packed

  -- ---- tables without other words

  header_turned : within header_window (rebased at o p) ≡ turned at (main_tables o) ((if o.entry == 0 then false else true) ∷ false ∷ false ∷ false ∷ false ∷ false ∷ false ∷ false ∷ false ∷ false ∷ []) (within header_window p)
  header_turned =
      no_words header_window header_in (sections_apart p o header_window is a.1.0.1.0) (undefined_apart p o header_window is other a.1.0.1.1.1.0) (packed_apart p o header_window is other (λ w h. h.1.0))
      ∙ within_tables at p o header_window ((if o.entry == 0 then false else true) ∷ false ∷ false ∷ false ∷ false ∷ false ∷ false ∷ false ∷ false ∷ false ∷ []) lie header_in a.1.0.1.1.1.1.1.1 (told_header o a s)

  segments_turned : within (segments_window o.header) (rebased at o p) ≡ turned at (main_tables o) (false ∷ true ∷ true ∷ false ∷ false ∷ false ∷ false ∷ false ∷ false ∷ false ∷ []) (within (segments_window o.header) p)
  segments_turned =
      no_words (segments_window o.header) segments_in (sections_apart p o (segments_window o.header) is a.1.1.0.0) (undefined_apart p o (segments_window o.header) is other a.1.1.0.1.1.0) (packed_apart p o (segments_window o.header) is other (λ w h. h.1.1.0))
      ∙ within_tables at p o (segments_window o.header) (false ∷ true ∷ true ∷ false ∷ false ∷ false ∷ false ∷ false ∷ false ∷ false ∷ []) lie segments_in a.1.1.0.1.1.1.1.1 (told_segments o a s)

  dynamic_turned : within (dynamic_of o) (rebased at o p) ≡ turned at (main_tables o) (false ∷ false ∷ false ∷ true ∷ false ∷ false ∷ false ∷ false ∷ false ∷ false ∷ []) (within (dynamic_of o) p)
  dynamic_turned =
      no_words (dynamic_of o) dynamic_in (sections_apart p o (dynamic_of o) is (apart_turned _ _ a.1.1.1.0.0)) (undefined_apart p o (dynamic_of o) is other a.1.1.1.1.0.0) (packed_apart p o (dynamic_of o) is other (λ w h. h.1.1.1.1.0))
      ∙ within_tables at p o (dynamic_of o) (false ∷ false ∷ false ∷ true ∷ false ∷ false ∷ false ∷ false ∷ false ∷ false ∷ []) lie dynamic_in a.1.1.1.1.0.1.1.1 (told_dynamic o a s)

  rela_turned : within (rela_of o) (rebased at o p) ≡ turned at (main_tables o) (false ∷ false ∷ false ∷ false ∷ false ∷ true ∷ true ∷ false ∷ false ∷ false ∷ []) (within (rela_of o) p)
  rela_turned =
      no_words (rela_of o) rela_in (sections_apart p o (rela_of o) is (apart_turned _ _ a.1.1.1.0.1.1.0)) (undefined_apart p o (rela_of o) is other (apart_turned _ _ a.1.1.1.1.1.0.0)) (packed_apart p o (rela_of o) is other (λ w h. h.1.1.1.1.1.1.0))
      ∙ within_tables at p o (rela_of o) (false ∷ false ∷ false ∷ false ∷ false ∷ true ∷ true ∷ false ∷ false ∷ false ∷ []) lie rela_in a.1.1.1.1.1.1.0.1 (told_rela o a s)

  jmprel_turned : within (jmprel_of o) (rebased at o p) ≡ turned at (main_tables o) (false ∷ false ∷ false ∷ false ∷ false ∷ false ∷ false ∷ true ∷ true ∷ false ∷ []) (within (jmprel_of o) p)
  jmprel_turned =
      no_words (jmprel_of o) jmprel_in (sections_apart p o (jmprel_of o) is (apart_turned _ _ a.1.1.1.0.1.1.1.0)) (undefined_apart p o (jmprel_of o) is other (apart_turned _ _ a.1.1.1.1.1.0.1.0)) (packed_apart p o (jmprel_of o) is other (λ w h. h.1.1.1.1.1.1.1.0))
      ∙ within_tables at p o (jmprel_of o) (false ∷ false ∷ false ∷ false ∷ false ∷ false ∷ false ∷ true ∷ true ∷ false ∷ []) lie jmprel_in a.1.1.1.1.1.1.1.0 (told_jmprel o a s)

  packed_turned : within (packed_of o) (rebased at o p) ≡ turned at (main_tables o) (false ∷ false ∷ false ∷ false ∷ false ∷ false ∷ false ∷ false ∷ false ∷ true ∷ []) (within (packed_of o) p)
  packed_turned =
      no_words (packed_of o) packed_in (sections_apart p o (packed_of o) is a.0.1.1.0) (undefined_apart p o (packed_of o) is other a.0.1.1.1.1.0) (packed_apart p o (packed_of o) is other (λ w h. h.0))
      ∙ within_tables at p o (packed_of o) (false ∷ false ∷ false ∷ false ∷ false ∷ false ∷ false ∷ false ∷ false ∷ true ∷ []) lie packed_in a.0.1.1.1.1.1.1.1 (told_packed o a s)

  -- ---- and with them

  first_words : AllIn (length moved_tables) (word_windows (section_words o))
  unfolding other_words
  first_words = (all_parts (length moved_tables) (section_words o) (undefined_words o) (all_parts (length moved_tables) (section_words o ++ undefined_words o) (packed_words o) (rw same_length (words_in p o is other))).0).0

  -- the file, its words added one kind after the other
  in_turn : rebased at o p ≡ added at (packed_words o) (added at (undefined_words o) (added at (section_words o) moved_tables))
  unfolding other_words
  in_turn = added-append at (section_words o ++ undefined_words o) (packed_words o) moved_tables ∙ ap (added at (packed_words o)) (added-append at (section_words o) (undefined_words o) moved_tables)

  abbrev file : List ℕ
  file = rebased at o p

  other_fits : (AllIn (length p) (word_windows (section_words o)) × AllIn (length p) (word_windows (undefined_words o))) × AllIn (length p) (word_windows (packed_words o))
  unfolding other_words
  other_fits =
      let both = all_parts (length p) (section_words o ++ undefined_words o) (packed_words o) (words_in p o is other) in
      (all_parts (length p) (section_words o) (undefined_words o) both.0, both.1)

  abbrev with_sections : List ℕ
  with_sections = added at (section_words o) moved_tables

  abbrev with_undefined : List ℕ
  with_undefined = added at (undefined_words o) with_sections

  sections_length : length with_sections ≡ length p
  sections_length = length-added at (section_words o) moved_tables (rw same_length other_fits.0.0) ∙ same_length

  undefined_length : length with_undefined ≡ length p
  undefined_length = length-added at (undefined_words o) with_sections (rw sections_length other_fits.0.1) ∙ sections_length

  pub rebased_length : length file ≡ length p
  rebased_length = ap length in_turn ∙ length-added at (packed_words o) with_undefined (rw undefined_length other_fits.1) ∙ undefined_length

  -- ---- the header

  header_by : (b : Bool) → (o.entry == 0) ≡ b → o.entry ≡ word64 24 p → header file ≡ fixed_header at (header p)
  unfolding header main_tables row_moved
  header_by true none entry =
      let e : part 0 64 file ≡ part 0 64 p = rw none at header_turned in
      sym (header_part file) ∙ ap header e ∙ header_part p ∙ sym (fixed_none at (header p) (ap (λ (n : ℕ). n == 0) (sym entry) ∙ none))
  header_by false some entry =
      let old : List ℕ = part 0 64 p in
      let len : length old ≡ 64 = length-part 0 64 p is.head.long in
      let e : part 0 64 file ≡ rows 64 (row_moved at Entry) 1 old = rw some at header_turned in
      let row : part 0 64 (rows 64 (row_moved at Entry) 1 old) ≡ row_moved at Entry (part 0 64 old) = row_at 64 (row_moved at Entry) 1 0 old (length-row_moved at Entry) (omega (arith, len)) (omega arith) in
      let whole : part 0 64 old ≡ old = part_part 0 64 0 64 p (omega arith) in
      let there : (word64 24 old == 0) ≡ false = ap (λ (n : ℕ). n == 0) (word64_part 0 64 24 p (omega arith) ∙ sym entry) ∙ some in
      sym (header_part file) ∙ ap header e ∙ sym (header_part (rows 64 (row_moved at Entry) 1 old)) ∙ ap header row ∙ ap (λ (r : List ℕ). header (row_moved at Entry r)) whole
      ∙ header_moved at old (omega (arith, len)) there ∙ ap (fixed_header at) (header_part p)

  pub rebased_header : o.entry ≡ word64 24 p → header file ≡ fixed_header at (header p)
  rebased_header entry = header_by (o.entry == 0) refl entry

  -- ---- the program headers

  pub one_segment : (i : ℕ) → i < o.header.phnum → segment_at file (o.header.phoff + 56 * i) ≡ fixed_segment at (segment_at p (o.header.phoff + 56 * i))
  unfolding main_tables
  one_segment i lt =
      let n : ℕ = o.header.phnum in
      let start : ℕ = o.header.phoff in
      let old : List ℕ = part start (56 * n) p in
      let mid : List ℕ = rows 56 (row_moved at SegmentAddress) n old in
      let len : length old ≡ 56 * n = length-part start (56 * n) p is.head.segments_in in
      let len_mid : length mid ≡ length old = length-rows 56 (row_moved at SegmentAddress) n old (length-row_moved at SegmentAddress) (omega (arith, len)) in
      let room : 56 * i + 56 ≤ 56 * n = row_room 56 i n lt in
      let row : List ℕ = part (56 * i) 56 old in
      let row_len : length row ≡ 56 = length-part (56 * i) 56 old (omega (arith, len, room)) in
      let turned : part start (56 * n) file ≡ rows 56 (row_moved at PhysicalAddress) n mid = segments_turned in
      let here : part (start + 56 * i) 56 file ≡ row_moved at PhysicalAddress (row_moved at SegmentAddress row) =
      sym (part_part start (56 * n) (56 * i) 56 file room) ∙ ap (part (56 * i) 56) turned
      ∙ row_at 56 (row_moved at PhysicalAddress) n i mid (length-row_moved at PhysicalAddress) (omega (arith, len, len_mid)) lt
      ∙ ap (row_moved at PhysicalAddress) (row_at 56 (row_moved at SegmentAddress) n i old (length-row_moved at SegmentAddress) (omega (arith, len)) lt) in
      sym (segment_part (start + 56 * i) file) ∙ ap (λ (r : List ℕ). segment_at r 0) here ∙ segment_moved at row row_len
      ∙ ap (fixed_segment at) (ap (λ (r : List ℕ). segment_at r 0) (part_part start (56 * n) (56 * i) 56 p room) ∙ segment_part (start + 56 * i) p)

  pub rebased_segments : segments file (fixed_header at o.header) ≡ map (fixed_segment at) o.segments
  unfolding segments fixed_header
  rebased_segments =
      range_same (λ i. segment_at file (o.header.phoff + 56 * i)) (λ i. fixed_segment at (segment_at p (o.header.phoff + 56 * i))) 0 o.header.phnum (λ i lt. one_segment i (omega (arith, lt)))
      ∙ range_mapped (fixed_segment at) (λ i. segment_at p (o.header.phoff + 56 * i)) 0 o.header.phnum ∙ ap (map (fixed_segment at)) is.head.segments

  -- ---- the section headers

  sections_left : within (sections_window o.header) file ≡ within (sections_window o.header) with_sections
  sections_left =
      let v : Window = sections_window o.header in
      ap (within v) in_turn
      ∙ within_added at (packed_words o) v with_undefined (rw undefined_length other_fits.1) (omega (arith, undefined_length, sections_in)) (packed_apart p o v is other (λ w h. h.1.1.1.0))
      ∙ within_added at (undefined_words o) v with_sections (rw sections_length other_fits.0.1) (omega (arith, sections_length, sections_in)) (undefined_apart p o v is other a.1.1.1.0.1.0)

  sections_kept : within (sections_window o.header) moved_tables ≡ within (sections_window o.header) p
  unfolding main_tables
  sections_kept = within_tables at p o (sections_window o.header) (false ∷ false ∷ false ∷ false ∷ false ∷ false ∷ false ∷ false ∷ false ∷ false ∷ []) lie sections_in a.1.1.1.0.1.1.1.1 (told_sections o a s)

  count : length o.sections ≡ o.header.shnum
  unfolding sections
  count = ap length (sym is.head.sections) ∙ length-map (range_with_len 0 o.header.shnum) _ ∙ length-range_with_len 0 o.header.shnum

  section_there : (i : ℕ) → i < o.header.shnum → slice_get o.sections i ≡ Some (section_at p (o.header.shoff + 64 * i))
  unfolding sections
  section_there i lt =
      let d : Section = section_at p 0 in
      ap (λ (xs : List Section). slice_get xs i) (sym is.head.sections)
      ∙ slice_get_at (sections p o.header) i d (omega (arith, lt, ap length is.head.sections, count))
      ∙ ap (λ (x : Section). Some x) (get_or-map-range_with_len (section p o.header) 0 o.header.shnum i i d lt (omega arith))

  pub one_section : (i : ℕ) → i < o.header.shnum → section_at file (o.header.shoff + 64 * i) ≡ fixed_section at (section_at p (o.header.shoff + 64 * i))
  unfolding section_words section_at
  one_section i lt =
      let n : ℕ = o.header.shnum in
      let start : ℕ = o.header.shoff in
      let q : ℕ → Bool = λ j. passes is_allocated (slice_get o.sections j) in
      let room : 64 * i + 64 ≤ 64 * n = row_room 64 i n lt in
      let row : List ℕ = part (start + 64 * i) 64 p in
      let row_len : length row ≡ 64 = length-part (start + 64 * i) 64 p (omega (arith, room, sections_in)) in
      let kept : part (start + 64 * i) 64 moved_tables ≡ row =
      sym (part_part start (64 * n) (64 * i) 64 moved_tables room) ∙ ap (part (64 * i) 64) sections_kept ∙ part_part start (64 * n) (64 * i) 64 p room in
      let here : part (start + 64 * i) 64 file ≡ (if q i then add8 16 at row else row) =
      sym (part_part start (64 * n) (64 * i) 64 file room) ∙ ap (part (64 * i) 64) sections_left ∙ part_part start (64 * n) (64 * i) 64 with_sections room
      ∙ added_row at start 64 16 q (length o.sections) i moved_tables (omega arith) (omega (arith, lt, count)) (omega (arith, same_length, sections_in, count))
      ∙ ap (λ (r : List ℕ). if q i then add8 16 at r else r) kept in
      let told : not (bit_and (word64 8 row) SHF_ALLOC == 0) ≡ q i =
      ap (λ (k : ℕ). not (bit_and k SHF_ALLOC == 0)) (word64_part (start + 64 * i) 64 8 p (omega arith)) ∙ ap (passes is_allocated) (sym (section_there i lt)) in
      sym (section_part (start + 64 * i) file) ∙ ap (λ (r : List ℕ). section_at r 0) here ∙ section_moved at row (q i) row_len told
      ∙ ap (fixed_section at) (section_part (start + 64 * i) p)

  pub rebased_sections : sections file (fixed_header at o.header) ≡ map (fixed_section at) o.sections
  unfolding sections fixed_header
  rebased_sections =
      range_same (λ i. section_at file (o.header.shoff + 64 * i)) (λ i. fixed_section at (section_at p (o.header.shoff + 64 * i))) 0 o.header.shnum (λ i lt. one_section i (omega (arith, lt)))
      ∙ range_mapped (fixed_section at) (λ i. section_at p (o.header.shoff + 64 * i)) 0 o.header.shnum ∙ ap (map (fixed_section at)) is.head.sections

  -- ---- the dynamic table, and the relocations

  pub rebased_dynamic : within (dynamic_of o) file ≡ rows 16 (row_moved at TagValue) ((dynamic_of o).size / 16) (within (dynamic_of o) p)
  unfolding main_tables
  rebased_dynamic = dynamic_turned

  pub rebased_rela : within (rela_of o) file ≡ rows 24 (row_moved at RelativeAddend) ((rela_of o).size / 24) (rows 24 (row_moved at RelocationPlace) ((rela_of o).size / 24) (within (rela_of o) p))
  unfolding main_tables
  rebased_rela = rela_turned

  pub rebased_jmprel : within (jmprel_of o) file ≡ rows 24 (row_moved at RelativeAddend) ((jmprel_of o).size / 24) (rows 24 (row_moved at RelocationPlace) ((jmprel_of o).size / 24) (within (jmprel_of o) p))
  unfolding main_tables
  rebased_jmprel = jmprel_turned

  pub rebased_packed : within (packed_of o) file ≡ rows 8 (row_moved at PackedAddress) ((packed_of o).size / 8) (within (packed_of o) p)
  unfolding main_tables
  rebased_packed = packed_turned

  -- ---- the symbols

  symbols_left : within (symbols_of o) file ≡ within (symbols_of o) with_undefined
  symbols_left =
      let v : Window = symbols_of o in
      ap (within v) in_turn ∙ within_added at (packed_words o) v with_undefined (rw undefined_length other_fits.1) (omega (arith, undefined_length, symbols_in)) (packed_apart p o v is other (λ w h. h.1.1.1.1.1.0))

  symbols_moved : within (symbols_of o) with_sections ≡ rows 24 (row_moved at SymbolValue) ((symbols_of o).size / 24) (within (symbols_of o) p)
  unfolding main_tables
  symbols_moved =
      let v : Window = symbols_of o in
      within_added at (section_words o) v moved_tables (rw same_length other_fits.0.0) (omega (arith, same_length, symbols_in)) (sections_apart p o v is (apart_turned _ _ a.1.1.1.0.1.0))
      ∙ within_tables at p o v (false ∷ false ∷ false ∷ false ∷ true ∷ false ∷ false ∷ false ∷ false ∷ false ∷ []) lie symbols_in a.1.1.1.1.1.0.1.1 (told_symbols o a s)

  pub rebased_symbol : (i : ℕ) → i < length o.symbols → part (24 * i) 24 (within (symbols_of o) file) ≡ symbol_row at (passes is_address (slice_get o.symbols i)) (part (24 * i) 24 (within (symbols_of o) p))
  unfolding undefined_words symbol_row
  rebased_symbol i lt =
      let n : ℕ = length o.symbols in
      let v : Window = symbols_of o in
      let q : ℕ → Bool = λ j. passes is_address (slice_get o.symbols j) in
      let size : v.size ≡ 24 * n = symbols_size p o is other in
      let few : v.size / 24 ≡ n = omega (arith, size) in
      let room : 24 * i + 24 ≤ v.size = omega (arith, size, row_room 24 i n lt) in
      let old : List ℕ = within v p in
      let len : length old ≡ v.size = length-within v p symbols_in in
      let left : part (v.at + 24 * i) 24 with_sections ≡ row_moved at SymbolValue (part (24 * i) 24 old) =
      sym (part_part v.at v.size (24 * i) 24 with_sections room) ∙ ap (part (24 * i) 24) symbols_moved
      ∙ row_at 24 (row_moved at SymbolValue) (v.size / 24) i old (length-row_moved at SymbolValue) (omega (arith, len, size, few)) (omega (arith, lt, few)) in
      ap (part (24 * i) 24) symbols_left ∙ part_part v.at v.size (24 * i) 24 with_undefined room
      ∙ added_row at v.at 24 8 q n i with_sections (omega arith) lt (omega (arith, sections_length, symbols_in, size))
      ∙ ap (λ (r : List ℕ). if q i then add8 8 at r else r) left
