-- Which windows of an accepted program lie apart, and what tables and words make of each of them.
use Rattle.std.proofs.Common.{◌≡◌, ℕ, ◌+◌, ◌*◌, ◌/◌, ◌%◌, ◌≤◌, Bool, true, false, List, [], ◌∷◌, ◌++◌, length, map, refl, sym, ap, subst, ◌∙◌, arith, inl, inr}
use Rattle.std.specs.Prelude.{◌==◌, not, if◌then◌else◌}
use Rattle.std.specs.List.{list_any, range_with_len}
use Rattle.std.proofs.Math.Nat.{mul-div-le}
use Rattle.std.proofs.lemmas.Bool.{cases_Bool, false≢true, or_parts, or_from, eqb-true}
use Rattle.std.proofs.lemmas.List.{length-map}
use Rattle.std.proofs.lemmas.List.Folds.{list_any-append}
use Rattle.std.proofs.lemmas.List.FromFn.{length-range_with_len}
use Rattle.std.proofs.lemmas.Nat.{div-add-mod'}
use Rattle.pl_base.specs.Windows.{Window, within, share, IsIn, AllIn, AreApart, IsApart}
use Rattle.pl_base.proofs.FindLaws.{any_map}
use Rattle.pl_base.proofs.WindowLaws.{AreAllApart, apart_turned, not_share, none_share}
use Rattle.pl_dyn.specs.declared.constants.TheConstants.{DT_HASH, DT_GNU_HASH, DT_VERSYM, DT_VERDEF, DT_VERNEED}
use Rattle.pl_dyn.specs.declared.tags.Tag.{Tag}
use Rattle.pl_elf.specs.Headers.{section_offset, sections}
use Rattle.pl_elf.specs.Kinds.{is_static}
use Rattle.pl_elf.specs.declared.header.Header.{Header}
use Rattle.pl_elf.specs.declared.range.Range.{Range}
use Rattle.pl_elf.specs.declared.section.Section.{Section}
use Rattle.pl_elf.specs.declared.segment.Segment.{Segment}
use Rattle.pl_relr.specs.Places as relr
use Rattle.pl_object.specs.Accepted.{Accepted, IsTabled, tags_of, kept_windows}
use Rattle.pl_object.specs.FilePart.{file_window, in_file_part, loaded}
use Rattle.pl_object.specs.Named.{range_window, dynamic_of, symbols_of, rela_of, jmprel_of, packed_of, symtabs_of}
use Rattle.pl_object.specs.PlaceClauses.{is_held, reloc_outside, reloc_in_tables, spots}
use Rattle.pl_object.specs.Relocations.{place, places, packed_relocs, relocs}
use Rattle.pl_object.specs.TableClauses.{meets, relr_table}
use Rattle.pl_object.specs.Tables.{dynamic_memory, symbols_memory, strings_memory, rela_memory, jmprel_memory, relr_memory, section_memory, tables_memory, header_window, segments_window, sections_window, main_windows, link_windows}
use Rattle.pl_object.specs.declared.object.Object.{Object}
use Rattle.pl_object.specs.declared.reloc.Reloc.{Reloc}
use Rattle.pl_object.proofs.TabledLaws.{windows_back}
use Rattle.pl_move.specs.Moves.{row_size, table_window, table_windows, all_moved}
use Rattle.pl_move.specs.Objects.{rows_of, symbol_rows, main_tables, tables_of, LieIn}
use Rattle.pl_move.specs.declared.kind.RowKind.{RowKind}
use Rattle.pl_move.specs.declared.kind.RowKind.TheVariants.{TagValue, SymbolValue, RelocationPlace, RelativeAddend, PackedAddress}
use Rattle.pl_move.proofs.MoveLaws.{length-all_moved, within_all_moved}
use Rattle.pl_move.proofs.ObjectLaws.{main_part, symtab_part}
use Rattle.pl_move.proofs.TableLaws.{all_moved-append}
use Rattle.pl_pie.specs.Words.{word_window, section_words, undefined_words, packed_words}
use Rattle.pl_pie.specs.Fix.{word_windows}
use Rattle.pl_pie.proofs.InsideLaws.{symbols_size, packed_is, whole_at}
use Rattle.pl_pie.proofs.ContentLaws.{Told, turned, within_told, rows_apart}

-- ---- no two of the tables share a byte

abbrev pub all_windows : Object → List Window
all_windows o =
    packed_of o ∷ header_window ∷ segments_window o.header ∷ sections_window o.header ∷ dynamic_of o ∷ symbols_of o ∷ rela_of o ∷ jmprel_of o ∷ map range_window (symtabs_of o)

own_windows_are : (p : List ℕ) (o : Object) (ts : List Tag) → IsTabled p o ts → all_windows o ≡ file_window o.segments (relr_memory ts) ∷ main_windows o.header o.segments o.sections ts
unfolding main_windows
own_windows_are p o ts t = rw (t.named.packed, t.named.dynamic, t.named.symbols, t.named.rela, t.named.jmprel, t.named.symtabs) refl

pub all_apart : (p : List ℕ) (o : Object) (ts : List Tag) → IsTabled p o ts → AreAllApart (all_windows o)
all_apart p o ts t =
    subst AreAllApart (sym (own_windows_are p o ts t)) (none_share (file_window o.segments (relr_memory ts) ∷ main_windows o.header o.segments o.sections ts) (or_from _ _ t.packed_apart t.apart))

-- ---- tables of whole rows

is_whole : (ss : List Segment) (m : Window) → in_file_part ss m ≡ true → (file_window ss m).size ≡ m.size
unfolding in_file_part
is_whole ss m h = eqb-true (file_window ss m).size m.size h

pub not_false : (b : Bool) → not b ≡ false → b ≡ true
not_false true h = refl
not_false false h = absurd (false≢true (sym h))

pub record AreHeld (p : List ℕ) (o : Object) : Type 0 where
  pub symbols : in_file_part o.segments (symbols_memory (tags_of p o) o.sections) ≡ true
  pub strings : in_file_part o.segments (strings_memory (tags_of p o)) ≡ true
  pub rela : in_file_part o.segments (rela_memory (tags_of p o)) ≡ true
  pub jmprel : in_file_part o.segments (jmprel_memory (tags_of p o)) ≡ true

pub are_held : (p : List ℕ) (o : Object) → IsTabled p o (tags_of p o) → AreHeld p o
unfolding tables_memory
are_held p o t =
    let ss = o.segments in
    let ts = tags_of p o in
    let o1 = or_parts (not (in_file_part ss (symbols_memory ts o.sections))) _ t.whole.tables_in in
    let o2 = or_parts (not (in_file_part ss (strings_memory ts))) _ o1.1 in
    let o3 = or_parts (not (in_file_part ss (rela_memory ts))) _ o2.1 in
    let o4 = or_parts (not (in_file_part ss (jmprel_memory ts))) _ o3.1 in
    record { symbols = not_false _ o1.0; strings = not_false _ o2.0; rela = not_false _ o3.0; jmprel = not_false _ o4.0 }

pub record AreSized (o : Object) : Type 0 where
  pub dynamic : (dynamic_of o).size % 16 ≡ 0
  pub symbols : (symbols_of o).size % 24 ≡ 0
  pub rela : (rela_of o).size % 24 ≡ 0
  pub jmprel : (jmprel_of o).size % 24 ≡ 0
  pub packed : (packed_of o).size % 8 ≡ 0

rows_left : (size : ℕ) (ss : List Segment) (w m : Window) → w ≡ file_window ss m → in_file_part ss m ≡ true → m.size % size ≡ 0 → w.size % size ≡ 0
rows_left size ss w m is held none = ap (λ (v : Window). v.size % size) is ∙ ap (λ (n : ℕ). n % size) (is_whole ss m held) ∙ none

pub are_sized : (p : List ℕ) (o : Object) → Accepted p o → is_static o.kind ≡ false → AreSized o
are_sized p o is other =
    let t = is.tabled other in
    let h = are_held p o t in
    let size = symbols_size p o is other in
    record {
      dynamic = rows_left 16 o.segments (dynamic_of o) (dynamic_memory o.segments) t.named.dynamic t.whole.dynamic_in t.whole.dynamic_rows;
      symbols = omega (arith, size);
      rela = rows_left 24 o.segments (rela_of o) (rela_memory (tags_of p o)) t.named.rela h.rela t.whole.rela_rows;
      jmprel = rows_left 24 o.segments (jmprel_of o) (jmprel_memory (tags_of p o)) t.named.jmprel h.jmprel t.whole.jmprel_rows;
      packed = rows_left 8 o.segments (packed_of o) (relr_memory (tags_of p o)) t.named.packed t.whole.packed_in t.whole.packed_rows;
    }

pub whole_rows : (kind : RowKind) (w : Window) → w.size % row_size kind ≡ 0 → table_window (rows_of kind w) ≡ w
whole_rows kind w none =
    let e : row_size kind * (w.size / row_size kind) ≡ w.size = omega (arith, div-add-mod' w.size (row_size kind), none) in
    ap (λ (n : ℕ). record { at = w.at; size = n }) e

-- whole rows of a window are apart from what it is apart from
pub rows_sub : (kind : RowKind) (v w : Window) → AreApart v w → AreApart v (table_window (rows_of kind w))
rows_sub kind v w (inl le) = inl le
rows_sub kind v w (inr (inl le)) = let m : row_size kind * (w.size / row_size kind) ≤ w.size = mul-div-le w.size (row_size kind) in inr (inl (omega (arith, le, m)))
rows_sub kind v w (inr (inr (inl none))) = inr (inr (inl none))
rows_sub kind v w (inr (inr (inr none))) = let m : row_size kind * (w.size / row_size kind) ≤ w.size = mul-div-le w.size (row_size kind) in inr (inr (inr (omega (arith, none, m))))

pub entry_apart : (v : Window) (entry : ℕ) → AreApart v header_window → AreApart v (record { at = 0; size = 64 * (if entry == 0 then 0 else 1) })
entry_apart v entry apart = elim (cases_Bool (entry == 0)) [
  | inl none ↦ rw none (inr (inr (inr refl)))
  | inr some ↦ rw some apart
]

symtab_rows : (v : Window) (rs : List Range) → IsApart v (map range_window rs) → IsApart v (table_windows (map symbol_rows rs))
symtab_rows v [] h = tt
symtab_rows v (r ∷ rs) h = (rows_sub SymbolValue v (range_window r) h.0, symtab_rows v rs h.1)

-- ---- a window of a file whose tables moved

pub within_tables : (at : ℕ) (p : List ℕ) (o : Object) (v : Window) (bs : List Bool) → LieIn (length p) o → IsIn (length p) v → IsApart v (map range_window (symtabs_of o)) → Told v (table_windows (main_tables o)) bs
    → within v (all_moved at (tables_of o) p) ≡ turned at (main_tables o) bs (within v p)
unfolding tables_of
within_tables at p o v bs lie inside symtabs told =
    let main : AllIn (length p) (table_windows (main_tables o)) = main_part (length p) o lie in
    let rest : AllIn (length p) (table_windows (map symbol_rows (symtabs_of o))) = symtab_part (length p) o lie in
    let len = length-all_moved at (main_tables o) p main in
    ap (within v) (all_moved-append at (main_tables o) (map symbol_rows (symtabs_of o)) p)
    ∙ within_all_moved at (map symbol_rows (symtabs_of o)) v (all_moved at (main_tables o) p) (rw len rest) (omega (arith, len, inside)) (symtab_rows v (symtabs_of o) symtabs)
    ∙ within_told at v (main_tables o) bs p main inside told

-- ---- each of the tables among the others

-- where there is an entry, the first table is the header
pub told_header : (o : Object) → AreAllApart (all_windows o) → AreSized o → Told header_window (table_windows (main_tables o)) ((if o.entry == 0 then false else true) ∷ false ∷ false ∷ false ∷ false ∷ false ∷ false ∷ false ∷ false ∷ false ∷ [])
unfolding main_tables
told_header o a s = elim (cases_Bool (o.entry == 0)) [
  | inl none ↦ rw none (inr (inr (inr refl)), (a.1.0.0, (a.1.0.0, (rows_sub TagValue _ _ a.1.0.1.1.0, (rows_sub SymbolValue _ _ a.1.0.1.1.1.0, (rows_sub RelocationPlace _ _ a.1.0.1.1.1.1.0, (rows_sub RelativeAddend _ _ a.1.0.1.1.1.1.0, (rows_sub RelocationPlace _ _ a.1.0.1.1.1.1.1.0, (rows_sub RelativeAddend _ _ a.1.0.1.1.1.1.1.0, (rows_sub PackedAddress _ _ (apart_turned _ _ a.0.0), tt))))))))))
  | inr some ↦ rw some (refl, (a.1.0.0, (a.1.0.0, (rows_sub TagValue _ _ a.1.0.1.1.0, (rows_sub SymbolValue _ _ a.1.0.1.1.1.0, (rows_sub RelocationPlace _ _ a.1.0.1.1.1.1.0, (rows_sub RelativeAddend _ _ a.1.0.1.1.1.1.0, (rows_sub RelocationPlace _ _ a.1.0.1.1.1.1.1.0, (rows_sub RelativeAddend _ _ a.1.0.1.1.1.1.1.0, (rows_sub PackedAddress _ _ (apart_turned _ _ a.0.0), tt))))))))))
]

pub told_segments : (o : Object) → AreAllApart (all_windows o) → AreSized o → Told (segments_window o.header) (table_windows (main_tables o)) (false ∷ true ∷ true ∷ false ∷ false ∷ false ∷ false ∷ false ∷ false ∷ false ∷ [])
unfolding main_tables
told_segments o a s =
    (entry_apart _ o.entry (apart_turned _ _ a.1.0.0), (refl, (refl, (rows_sub TagValue _ _ a.1.1.0.1.0, (rows_sub SymbolValue _ _ a.1.1.0.1.1.0, (rows_sub RelocationPlace _ _ a.1.1.0.1.1.1.0, (rows_sub RelativeAddend _ _ a.1.1.0.1.1.1.0, (rows_sub RelocationPlace _ _ a.1.1.0.1.1.1.1.0, (rows_sub RelativeAddend _ _ a.1.1.0.1.1.1.1.0, (rows_sub PackedAddress _ _ (apart_turned _ _ a.0.1.0), tt))))))))))

pub told_sections : (o : Object) → AreAllApart (all_windows o) → AreSized o → Told (sections_window o.header) (table_windows (main_tables o)) (false ∷ false ∷ false ∷ false ∷ false ∷ false ∷ false ∷ false ∷ false ∷ false ∷ [])
unfolding main_tables
told_sections o a s =
    (entry_apart _ o.entry (apart_turned _ _ a.1.0.1.0), ((apart_turned _ _ a.1.1.0.0), ((apart_turned _ _ a.1.1.0.0), (rows_sub TagValue _ _ a.1.1.1.0.0, (rows_sub SymbolValue _ _ a.1.1.1.0.1.0, (rows_sub RelocationPlace _ _ a.1.1.1.0.1.1.0, (rows_sub RelativeAddend _ _ a.1.1.1.0.1.1.0, (rows_sub RelocationPlace _ _ a.1.1.1.0.1.1.1.0, (rows_sub RelativeAddend _ _ a.1.1.1.0.1.1.1.0, (rows_sub PackedAddress _ _ (apart_turned _ _ a.0.1.1.0), tt))))))))))

pub told_dynamic : (o : Object) → AreAllApart (all_windows o) → AreSized o → Told (dynamic_of o) (table_windows (main_tables o)) (false ∷ false ∷ false ∷ true ∷ false ∷ false ∷ false ∷ false ∷ false ∷ false ∷ [])
unfolding main_tables
told_dynamic o a s =
    (entry_apart _ o.entry (apart_turned _ _ a.1.0.1.1.0), ((apart_turned _ _ a.1.1.0.1.0), ((apart_turned _ _ a.1.1.0.1.0), (whole_rows TagValue _ s.dynamic, (rows_sub SymbolValue _ _ a.1.1.1.1.0.0, (rows_sub RelocationPlace _ _ a.1.1.1.1.0.1.0, (rows_sub RelativeAddend _ _ a.1.1.1.1.0.1.0, (rows_sub RelocationPlace _ _ a.1.1.1.1.0.1.1.0, (rows_sub RelativeAddend _ _ a.1.1.1.1.0.1.1.0, (rows_sub PackedAddress _ _ (apart_turned _ _ a.0.1.1.1.0), tt))))))))))

pub told_symbols : (o : Object) → AreAllApart (all_windows o) → AreSized o → Told (symbols_of o) (table_windows (main_tables o)) (false ∷ false ∷ false ∷ false ∷ true ∷ false ∷ false ∷ false ∷ false ∷ false ∷ [])
unfolding main_tables
told_symbols o a s =
    (entry_apart _ o.entry (apart_turned _ _ a.1.0.1.1.1.0), ((apart_turned _ _ a.1.1.0.1.1.0), ((apart_turned _ _ a.1.1.0.1.1.0), (rows_sub TagValue _ _ (apart_turned _ _ a.1.1.1.1.0.0), (whole_rows SymbolValue _ s.symbols, (rows_sub RelocationPlace _ _ a.1.1.1.1.1.0.0, (rows_sub RelativeAddend _ _ a.1.1.1.1.1.0.0, (rows_sub RelocationPlace _ _ a.1.1.1.1.1.0.1.0, (rows_sub RelativeAddend _ _ a.1.1.1.1.1.0.1.0, (rows_sub PackedAddress _ _ (apart_turned _ _ a.0.1.1.1.1.0), tt))))))))))

pub told_rela : (o : Object) → AreAllApart (all_windows o) → AreSized o → Told (rela_of o) (table_windows (main_tables o)) (false ∷ false ∷ false ∷ false ∷ false ∷ true ∷ true ∷ false ∷ false ∷ false ∷ [])
unfolding main_tables
told_rela o a s =
    (entry_apart _ o.entry (apart_turned _ _ a.1.0.1.1.1.1.0), ((apart_turned _ _ a.1.1.0.1.1.1.0), ((apart_turned _ _ a.1.1.0.1.1.1.0), (rows_sub TagValue _ _ (apart_turned _ _ a.1.1.1.1.0.1.0), (rows_sub SymbolValue _ _ (apart_turned _ _ a.1.1.1.1.1.0.0), (whole_rows RelocationPlace _ s.rela, (whole_rows RelativeAddend _ s.rela, (rows_sub RelocationPlace _ _ a.1.1.1.1.1.1.0.0, (rows_sub RelativeAddend _ _ a.1.1.1.1.1.1.0.0, (rows_sub PackedAddress _ _ (apart_turned _ _ a.0.1.1.1.1.1.0), tt))))))))))

pub told_jmprel : (o : Object) → AreAllApart (all_windows o) → AreSized o → Told (jmprel_of o) (table_windows (main_tables o)) (false ∷ false ∷ false ∷ false ∷ false ∷ false ∷ false ∷ true ∷ true ∷ false ∷ [])
unfolding main_tables
told_jmprel o a s =
    (entry_apart _ o.entry (apart_turned _ _ a.1.0.1.1.1.1.1.0), ((apart_turned _ _ a.1.1.0.1.1.1.1.0), ((apart_turned _ _ a.1.1.0.1.1.1.1.0), (rows_sub TagValue _ _ (apart_turned _ _ a.1.1.1.1.0.1.1.0), (rows_sub SymbolValue _ _ (apart_turned _ _ a.1.1.1.1.1.0.1.0), (rows_sub RelocationPlace _ _ (apart_turned _ _ a.1.1.1.1.1.1.0.0), (rows_sub RelativeAddend _ _ (apart_turned _ _ a.1.1.1.1.1.1.0.0), (whole_rows RelocationPlace _ s.jmprel, (whole_rows RelativeAddend _ s.jmprel, (rows_sub PackedAddress _ _ (apart_turned _ _ a.0.1.1.1.1.1.1.0), tt))))))))))

pub told_packed : (o : Object) → AreAllApart (all_windows o) → AreSized o → Told (packed_of o) (table_windows (main_tables o)) (false ∷ false ∷ false ∷ false ∷ false ∷ false ∷ false ∷ false ∷ false ∷ true ∷ [])
unfolding main_tables
told_packed o a s =
    (entry_apart _ o.entry a.0.0, (a.0.1.0, (a.0.1.0, (rows_sub TagValue _ _ a.0.1.1.1.0, (rows_sub SymbolValue _ _ a.0.1.1.1.1.0, (rows_sub RelocationPlace _ _ a.0.1.1.1.1.1.0, (rows_sub RelativeAddend _ _ a.0.1.1.1.1.1.0, (rows_sub RelocationPlace _ _ a.0.1.1.1.1.1.1.0, (rows_sub RelativeAddend _ _ a.0.1.1.1.1.1.1.0, (whole_rows PackedAddress _ s.packed, tt))))))))))

-- ---- the other words

pub sections_apart : (p : List ℕ) (o : Object) (v : Window) → Accepted p o → AreApart v (sections_window o.header) → IsApart v (word_windows (section_words o))
unfolding section_words sections
sections_apart p o v is apart =
    let h = o.header in
    let count : length o.sections ≡ h.shnum = ap length (sym is.head.sections) ∙ length-map (range_with_len 0 h.shnum) _ ∙ length-range_with_len 0 h.shnum in
    rows_apart v (sections_window h) (length o.sections) (λ i. section_offset h i + 16) _ apart (λ i lt. (omega arith, omega (arith, lt, count)))

pub undefined_apart : (p : List ℕ) (o : Object) (v : Window) → Accepted p o → is_static o.kind ≡ false → AreApart v (symbols_of o) → IsApart v (word_windows (undefined_words o))
unfolding undefined_words
undefined_apart p o v is other apart =
    let size = symbols_size p o is other in
    rows_apart v (symbols_of o) (length o.symbols) (λ i. (symbols_of o).at + 24 * i + 8) _ apart (λ i lt. (omega arith, omega (arith, lt, size)))

-- what is clear of the link tables and the section headers is clear of these
one_kept : (h : Header) (ss : List Segment) (secs : List Section) (ts : List Tag) (w : Window) → meets (sections_window h ∷ link_windows h ss secs ts) w ≡ false → meets (file_window ss (relr_memory ts) ∷ main_windows h ss secs ts) w ≡ false
unfolding link_windows main_windows tables_memory
one_kept h ss secs ts w e =
    let p0 = or_parts (share w (sections_window h)) _ e in
    let p1 = or_parts (share w header_window) _ p0.1 in
    let p2 = or_parts (share w (segments_window h)) _ p1.1 in
    let p3 = or_parts (share w (file_window ss (dynamic_memory ss))) _ p2.1 in
    let p4 = or_parts (share w (file_window ss (symbols_memory ts secs))) _ p3.1 in
    let p5 = or_parts (share w (file_window ss (strings_memory ts))) _ p4.1 in
    let p6 = or_parts (share w (file_window ss (rela_memory ts))) _ p5.1 in
    let p7 = or_parts (share w (file_window ss (jmprel_memory ts))) _ p6.1 in
    let p8 = or_parts (share w (file_window ss (section_memory DT_HASH ts secs))) _ p7.1 in
    let p9 = or_parts (share w (file_window ss (section_memory DT_GNU_HASH ts secs))) _ p8.1 in
    let pa = or_parts (share w (file_window ss (section_memory DT_VERSYM ts secs))) _ p9.1 in
    let pb = or_parts (share w (file_window ss (section_memory DT_VERDEF ts secs))) _ pa.1 in
    let pc = or_parts (share w (file_window ss (section_memory DT_VERNEED ts secs))) _ pb.1 in
    let pd = or_parts (share w (file_window ss (relr_memory ts))) _ pc.1 in
    rw (pd.0, p1.0, p2.0, p0.0, p3.0, p4.0, p6.0, p7.0) pd.1

-- a window that meets none of some is apart from them
none_met : (v : Window) (ws : List Window) → meets ws v ≡ false → IsApart v ws
none_met v [] none = tt
none_met v (w ∷ ws) none =
    let p = or_parts (share v w) (list_any (share v) ws) none in
    (not_share v w p.0, none_met v ws p.1)

packed_list_apart : (p : List ℕ) (ss : List Segment) (addresses : List ℕ) (ws : List Window) (v : Window) → ((w : Window) → IsApart w ws → AreApart w v)
    → list_any (λ m. not (is_held false ss m)) (places (packed_relocs p ss addresses)) ≡ false → list_any (λ r. meets ws (file_window ss (place r))) (packed_relocs p ss addresses) ≡ false
    → IsApart v (word_windows (map (λ r. (file_window ss (place r)).at) (packed_relocs p ss addresses)))
unfolding packed_relocs
packed_list_apart p ss [] ws v pick held clear = tt
packed_list_apart p ss (a ∷ addresses) ws v pick held clear =
    let m : Window = record { at = a; size = 8 } in
    let q = or_parts (not (is_held false ss m)) _ held in
    let c = or_parts (meets ws (file_window ss m)) _ clear in
    let whole : file_window ss m ≡ word_window (file_window ss m).at = ap (λ (n : ℕ). record { at = (file_window ss m).at; size = n }) (whole_at ss m q.0) in
    let one : AreApart v (file_window ss m) = apart_turned (file_window ss m) v (pick (file_window ss m) (none_met (file_window ss m) ws c.0)) in
    (subst (AreApart v) whole one, packed_list_apart p ss addresses ws v pick q.1 c.1)

pub packed_apart : (p : List ℕ) (o : Object) (v : Window) → Accepted p o → is_static o.kind ≡ false → ((w : Window) → IsApart w (all_windows o) → AreApart w v) → IsApart v (word_windows (packed_words o))
unfolding packed_words reloc_outside reloc_in_tables spots main_windows
packed_apart p o v is other pick =
    let t = is.tabled other in
    let ts = tags_of p o in
    let ss = o.segments in
    let same = packed_is p o is other in
    let addresses = relr.places (relr_table p ss ts) in
    let last : List Reloc = packed_relocs p ss addresses in
    let front : List Reloc = relocs o.symbols (loaded p ss (rela_memory ts)) ++ relocs o.symbols (loaded p ss (jmprel_memory ts)) in
    let held : list_any (λ m. not (is_held false ss m)) (places last) ≡ false = subst (λ (rs : List Reloc). list_any (λ m. not (is_held false ss m)) (places rs) ≡ false) same is.packed_held in
    let links : map range_window o.tables ≡ link_windows o.header ss o.sections ts = ap (map range_window) t.shape ∙ windows_back (link_windows o.header ss o.sections ts) in
    let own : List Window = file_window ss (relr_memory ts) ∷ main_windows o.header ss o.sections ts in
    let wide : Reloc → Bool = λ r. meets (sections_window o.header ∷ link_windows o.header ss o.sections ts) (file_window ss (place r)) in
    let each : list_any (λ r. meets (kept_windows o) (file_window ss (place r))) o.relocations ≡ false =
    sym (any_map (λ m. meets (kept_windows o) (file_window ss m)) place o.relocations) ∙ sym (any_map (meets (kept_windows o)) (file_window ss) (places o.relocations)) ∙ is.clear in
    let all : list_any wide o.relocations ≡ false = subst (λ (ws : List Window). list_any (λ r. meets (sections_window o.header ∷ ws) (file_window ss (place r))) o.relocations ≡ false) links each in
    let cut : list_any wide (front ++ last) ≡ false = subst (λ (rs : List Reloc). list_any wide rs ≡ false) t.rows all in
    let two = or_parts (list_any wide front) (list_any wide last) (sym (list_any-append wide front last) ∙ cut) in
    let clear = narrow o.header ss o.sections ts last two.1 in
    subst (λ (rs : List Reloc). IsApart v (word_windows (map (λ r. (file_window ss (place r)).at) rs))) (sym same)
    (packed_list_apart p ss addresses own v (λ w h. pick w (subst (IsApart w) (sym (own_windows_are p o ts t)) h)) held clear)
  where
    narrow : (h : Header) (ss : List Segment) (secs : List Section) (ts : List Tag) (rs : List Reloc) → list_any (λ r. meets (sections_window h ∷ link_windows h ss secs ts) (file_window ss (place r))) rs ≡ false
        → list_any (λ r. meets (file_window ss (relr_memory ts) ∷ main_windows h ss secs ts) (file_window ss (place r))) rs ≡ false
    narrow h ss secs ts [] e = refl
    narrow h ss secs ts (r ∷ rs) e =
        let q = or_parts (meets (sections_window h ∷ link_windows h ss secs ts) (file_window ss (place r))) _ e in
        or_from _ _ (one_kept h ss secs ts (file_window ss (place r)) q.0) (narrow h ss secs ts rs q.1)
