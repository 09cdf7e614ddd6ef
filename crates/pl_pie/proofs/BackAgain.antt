-- What is taken from a fixed file, by the object that is read of it, is what was added.
use Rattle.std.proofs.Common.{◌≡◌, ℕ, zero, suc, ◌+◌, ◌-◌, ◌*◌, ◌/◌, ◌%◌, ◌^◌, ◌<◌, ◌≤◌, Bool, true, false, List, [], ◌∷◌, ◌++◌, length, map, take, drop, Option, Some, None, refl, sym, ap, subst, ◌∙◌, arith, inl, inr}
use Rattle.std.specs.Prelude.{◌⊎◌, ◌||◌, ◌&&◌, ◌==◌, not, nat_le, filter, fold, slice_get, if◌then◌else◌}
use Rattle.std.specs.List.{All, AllZip, list_any, range_with_len}
use Rattle.std.specs.Option.{option_map}
use Rattle.std.proofs.Math.Nat.{zero-div}
use Rattle.std.proofs.lemmas.Bool.{cases_Bool, eqb-true, or_parts, true≢false}
use Rattle.std.proofs.lemmas.List.{length-map, take-append-drop, append-nil, drop-map}
use Rattle.std.proofs.lemmas.List.Elements.{All-head, All-tail}
use Rattle.pl_base.specs.Bytes.{part, put}
use Rattle.pl_base.specs.Sums.{plus, round_down, round_up}
use Rattle.pl_base.specs.Windows.{Window, on}
use Rattle.pl_base.proofs.FindLaws.{find_passes}
use Rattle.pl_elf.specs.Headers.{is_load, is_of_kind, section_offset, segment_of_kind}
use Rattle.pl_elf.specs.Kinds.{is_program}
use Rattle.pl_elf.specs.declared.constants.TheConstants.{ADDRESS_LIMIT, PT_LOAD}
use Rattle.pl_elf.specs.declared.range.Range.{Range}
use Rattle.pl_elf.specs.declared.section.Section.{Section}
use Rattle.pl_elf.specs.declared.segment.Segment.{Segment}
use Rattle.pl_relr.specs.Places as relr
use Rattle.pl_sym.specs.Definers.{is_canonical}
use Rattle.pl_sym.specs.Symbol.{is_in_section, is_local, is_tls, is_undefined}
use Rattle.pl_sym.specs.declared.symbol.Symbol.{Symbol}
use Rattle.pl_object.specs.Accepted.{tags_of}
use Rattle.pl_object.specs.FilePart.{file_window, loaded_by, loader, loads_byte}
use Rattle.pl_object.specs.Named.{dynamic_of, jmprel_of, packed_of, rela_of, symbols_of, symtabs_of, window_in, range_window}
use Rattle.pl_object.specs.PlaceClauses as places
use Rattle.pl_object.specs.PlaceClauses.{is_held, last_load, reloc_outside}
use Rattle.pl_object.specs.Reads.{end_in_memory, span}
use Rattle.pl_object.specs.Relocations.{packed_relocs, place}
use Rattle.pl_object.specs.Relocations as relocations
use Rattle.pl_object.specs.SymbolClauses.{base_not_zero, is_above}
use Rattle.pl_object.specs.TableClauses.{relr_table}
use Rattle.pl_object.specs.Tables.{is_allocated}
use Rattle.pl_object.specs.declared.constants.TheConstants.{DYNAMIC_TABLE, FIRST_SYMTAB, JMPREL_TABLE, PACKED_TABLE, RELA_TABLE, SYMBOLS_TABLE}
use Rattle.pl_object.specs.declared.object.Object.{Object}
use Rattle.pl_object.specs.declared.reloc.Reloc.{Reloc}
use Rattle.pl_object.proofs.FilePartLaws.{loads_parts, loader_loads_byte}
use Rattle.pl_move.specs.Moves.{all_back, moved, row_size, rows}
use Rattle.pl_move.specs.Objects.{main_tables, rows_of, symbol_rows, tables_of}
use Rattle.pl_move.specs.declared.kind.RowKind.{RowKind}
use Rattle.pl_move.specs.declared.kind.RowKind.TheVariants.{Entry, TagValue, SymbolValue, RelocationPlace, RelativeAddend, PackedAddress}
use Rattle.pl_move.specs.declared.table.Table.{Table}
use Rattle.law_fixed.specs.Fixed.{KeepsItsKind, fixed, fixed_entry, fixed_header, fixed_reloc, fixed_section, fixed_segment, fixed_symbol, moves, with_value}
use Rattle.law_fixed.specs.Stays.{Stands, moved_window}
use Rattle.law_fixed.proofs.ImageLaws.{load_moves}
use Rattle.law_fixed.proofs.LookupLaws.{fixed_is}
use Rattle.law_fixed.proofs.StayLaws.{moves_stay}
use Rattle.pl_pie.specs.Fix.{page_of, start_of}
use Rattle.pl_pie.specs.Laws.{IsFixed, IsSameRange}
use Rattle.pl_pie.specs.Pie.{as_program, begins_low, has_high, has_loaded_symbols, is_high, is_laid_out, is_linked, lacks_value, loads_sections, refers_badly, writes_kept}
use Rattle.pl_pie.specs.Words.{indices, is_address, other_words, packed_words, passes, section_words, undefined_words}
use Rattle.pl_pie.proofs.AlignLaws.{span_some}
use Rattle.pl_pie.proofs.AtLaws.{IsAt}
use Rattle.pl_pie.proofs.InsideLaws.{packed_is, symbols_size, whole_at}
use Rattle.pl_pie.proofs.MemoryLaws.{Alike, segment_found, window_stays}
use Rattle.pl_pie.proofs.MovableLaws.{below_limit, movable}
use Rattle.pl_pie.proofs.PieLaws.{and_both, not_true}

-- ---- tables of the same rows, or of none

abbrev SameTable : Table → Table → Type 0
SameTable new old = (new ≡ old) ⊎ ((new.count ≡ 0) × (old.count ≡ 0))

empty_put : (at size : ℕ) (xs : List ℕ) → size ≡ 0 → put at (part at size xs) xs ≡ xs
unfolding put
empty_put at size xs none =
    let here : at + 0 ≡ at = omega arith in
    ap (λ (n : ℕ). put at (part at n xs) xs) none ∙ ap (λ (n : ℕ). take at xs ++ [] ++ drop n xs) here
    ∙ ap (λ (ys : List ℕ). ys ++ drop at xs) (append-nil (take at xs)) ∙ take-append-drop at xs

none_moved : (w : ℕ) (t : Table) (xs : List ℕ) → t.count ≡ 0 → moved w t xs ≡ xs
unfolding moved on rows
none_moved w t xs none = rw none (empty_put t.at (row_size t.kind * 0) xs (omega arith))

one_same : (w : ℕ) (new old : Table) (xs : List ℕ) → SameTable new old → moved w new xs ≡ moved w old xs
one_same w new old xs (inl same) = ap (λ (t : Table). moved w t xs) same
one_same w new old xs (inr none) = none_moved w new xs none.0 ∙ sym (none_moved w old xs none.1)

back_same : (w : ℕ) (ts us : List Table) (xs : List ℕ) → AllZip SameTable ts us → all_back w ts xs ≡ all_back w us xs
unfolding all_back
back_same w [] [] xs all = refl
back_same w [] (u ∷ us) xs all = absurd all
back_same w (t ∷ ts) [] xs all = absurd all
back_same w (t ∷ ts) (u ∷ us) xs all = one_same (2 ^ 64 - w) t u (all_back w ts xs) all.0 ∙ ap (moved (2 ^ 64 - w) u) (back_same w ts us xs all.1)

zip_append : (a b c d : List Table) → AllZip SameTable a b → AllZip SameTable c d → AllZip SameTable (a ++ c) (b ++ d)
zip_append [] [] c d x y = y
zip_append [] (u ∷ us) c d x y = absurd x
zip_append (t ∷ ts) [] c d x y = absurd x
zip_append (t ∷ ts) (u ∷ us) c d x y = (x.0, zip_append ts us c d x.1 y)

rows_same : (kind : RowKind) (new old : Window) → Alike new old → SameTable (rows_of kind new) (rows_of kind old)
rows_same kind new old (inl same) = inl (ap (rows_of kind) same)
rows_same kind new old (inr none) = inr (rw none.0 (zero-div (row_size kind)), rw none.1 (zero-div (row_size kind)))

-- ---- link tables

window_same : (new old : Range) → IsSameRange new old → Alike (range_window new) (range_window old)
window_same new old (inl same) = inl (ap range_window same)
window_same new old (inr none) = inr (omega (arith, none.0), omega (arith, none.1))

get_same : (i : ℕ) (new old : List Range) → AllZip IsSameRange new old → Alike (window_in (slice_get new i)) (window_in (slice_get old i))
get_same i [] [] all = inl refl
get_same i [] (y ∷ ys) all = absurd all
get_same i (x ∷ xs) [] all = absurd all
get_same zero (x ∷ xs) (y ∷ ys) all = window_same x y all.0
get_same (suc i) (x ∷ xs) (y ∷ ys) all = get_same i xs ys all.1

symtabs_same : (n : ℕ) (new old : List Range) → AllZip IsSameRange new old → AllZip SameTable (map symbol_rows (drop n new)) (map symbol_rows (drop n old))
symtabs_same zero [] [] all = tt
symtabs_same zero [] (y ∷ ys) all = absurd all
symtabs_same zero (x ∷ xs) [] all = absurd all
symtabs_same zero (x ∷ xs) (y ∷ ys) all = (rows_same SymbolValue (range_window x) (range_window y) (window_same x y all.0), symtabs_same zero xs ys all.1)
symtabs_same (suc n) [] [] all = tt
symtabs_same (suc n) [] (y ∷ ys) all = absurd all
symtabs_same (suc n) (x ∷ xs) [] all = absurd all
symtabs_same (suc n) (x ∷ xs) (y ∷ ys) all = symtabs_same n xs ys all.1

-- ---- indices

filter_same : {X : Type 0} (p q : X → Bool) (xs : List X) → ((x : X) → p x ≡ q x) → filter p xs ≡ filter q xs
filter_same p q [] same = refl
filter_same p q (x ∷ xs) same = elim (cases_Bool (q x)) [
  | inl hit ↦ rw (same x, hit) (ap (λ ys. x ∷ ys) (filter_same p q xs same))
  | inr miss ↦ rw (same x, miss) (filter_same p q xs same)
]

passing_same : {X Y : Type 0} (p : Y → Bool) (q : X → Bool) (f : X → Y) (xs : List X) (i : ℕ) → All (λ x. p (f x) ≡ q x) xs → passes p (slice_get (map f xs) i) ≡ passes q (slice_get xs i)
passing_same p q f [] i all = refl
passing_same p q f (x ∷ xs) zero all = All-head (λ y. p (f y) ≡ q y) x xs all
passing_same p q f (x ∷ xs) (suc i) all = passing_same p q f xs i (All-tail (λ y. p (f y) ≡ q y) x xs all)

indices_same : {X Y : Type 0} (p : Y → Bool) (q : X → Bool) (f : X → Y) (xs : List X) → All (λ x. p (f x) ≡ q x) xs → indices p (map f xs) ≡ indices q xs
indices_same p q f xs all =
    ap (λ (n : ℕ). filter (λ i. passes p (slice_get (map f xs) i)) (range_with_len 0 n)) (length-map xs f)
    ∙ filter_same (λ i. passes p (slice_get (map f xs) i)) (λ i. passes q (slice_get xs i)) (range_with_len 0 (length xs)) (λ i. passing_same p q f xs i all)

none_indices : {X : Type 0} (p : X → Bool) (xs : List X) → length xs ≡ 0 → indices p xs ≡ []
none_indices p [] none = refl
none_indices p (x ∷ xs) none = absurd (omega (arith, none))

allocated_kept : (at : ℕ) (s : Section) → is_allocated (fixed_section at s) ≡ is_allocated s
unfolding fixed_section
allocated_kept at s = refl

-- ---- symbols

valued : (v : ℕ) (s : Symbol) → (is_canonical (with_value v s) ≡ is_canonical s) → is_address (with_value v s) ≡ is_address s
unfolding is_address is_tls
valued v s same = rw same refl

canonical_kept : (v : ℕ) (s : Symbol) → (v == 0) ≡ (s.value == 0) → is_canonical (with_value v s) ≡ is_canonical s
unfolding is_canonical is_undefined is_local
canonical_kept v s h = rw h refl

section_kept : (v : ℕ) (s : Symbol) → is_undefined s ≡ false → is_canonical (with_value v s) ≡ is_canonical s
unfolding is_canonical is_undefined
section_kept v s h = rw h refl

defined : (s : Symbol) → moves s ≡ true → (s.value == 0) ≡ true → is_undefined s ≡ false
unfolding moves is_canonical is_in_section is_undefined
defined s goes none = grind (arith, goes, none)

address_kept : (at : ℕ) (s : Symbol) → KeepsItsKind at s → is_address (fixed_symbol at s) ≡ is_address s
address_kept at s kept = fixed_is at s (λ (t : Symbol). is_address t ≡ is_address s) (λ _. refl) (λ goes. valued (plus s.value at) s (elim (cases_Bool (s.value == 0)) [
  | inl none ↦ section_kept (plus s.value at) s (defined s goes none)
  | inr some ↦ canonical_kept (plus s.value at) s (kept.there goes some ∙ sym some)
]))

-- ---- packed places

low_place : (at : ℕ) (ss : List Segment) (a : ℕ) → All (Stands at) ss → (file_window ss (record { at = a; size = 8 })).size ≡ 8 → a < 2 ^ 64
unfolding file_window
low_place at ss a all whole = of_loader (loader ss a) refl whole
  where
    held : (ts : List Segment) (t : Segment) → All (Stands at) ts → loader ts a ≡ Some t → Stands at t
    held [] t all e = absurd cc
    held (s ∷ ts) t all e = elim (cases_Bool (loads_byte a s)) [
      | inl hit ↦ let same : s ≡ t = some_same s t (rw hit at e) in subst (Stands at) same (All-head (Stands at) s ts all)
      | inr miss ↦ held ts t (All-tail (Stands at) s ts all) (rw miss at e)
    ]
      where
        some_same : (x y : Segment) → Some x ≡ Some y → x ≡ y
        some_same x y e = cc

    of_loader : (m : Option Segment) → loader ss a ≡ m → (loaded_by (record { at = a; size = 8 }) m).size ≡ 8 → a < 2 ^ 64
    of_loader None e size = absurd (omega (arith, size))
    of_loader (Some t) e size =
        let byte = loads_parts a t (loader_loads_byte a ss t e) in
        let stands = held ss t all e in
        omega (arith, byte.2, stands.file byte.0, stands.ends byte.0)

abbrev spot : List Segment → Reloc → ℕ
spot ss r = (file_window ss (place r)).at

spots_same : (p : List ℕ) (at : ℕ) (ss : List Segment) (addresses : List ℕ) → All (Stands at) ss → list_any (λ m. not (is_held false ss m)) (relocations.places (packed_relocs p ss addresses)) ≡ false
    → map (spot (map (fixed_segment at) ss)) (map (fixed_reloc at) (packed_relocs p ss addresses)) ≡ map (spot ss) (packed_relocs p ss addresses)
unfolding packed_relocs fixed_reloc
spots_same p at ss [] stands held = refl
spots_same p at ss (a ∷ addresses) stands held =
    let m : Window = record { at = a; size = 8 } in
    let h = or_parts (not (is_held false ss m)) _ held in
    let one : file_window (map (fixed_segment at) ss) (moved_window at m) ≡ file_window ss m = window_stays at ss stands m (low_place at ss a stands (whole_at ss m h.0)) in
    ap (λ (w : Window). w.at ∷ map (spot (map (fixed_segment at) ss)) (map (fixed_reloc at) (packed_relocs p ss addresses))) one
    ∙ ap (λ (ns : List ℕ). (file_window ss m).at ∷ ns) (spots_same p at ss addresses stands h.1)

-- ---- the first page

no_load : (found : Option Segment) (ss : List Segment) → segment_of_kind PT_LOAD ss ≡ None → fold (λ f s. if is_load s then Some s else f) found ss ≡ found
no_load found [] none = refl
no_load found (s ∷ ss) none = elim (cases_Bool (is_load s)) [
  | inl hit ↦ absurd (let bad : ◌≡◌ {A = Option Segment} (Some s) None = rw hit at none in cc)
  | inr miss ↦ rw miss (no_load found ss (rw miss at none))
]

nothing_up : 0 < round_up 0 4096 → ⊥
unfolding round_up
nothing_up h = omega (arith, h)

some_load : (ss : List Segment) → segment_of_kind PT_LOAD ss ≡ None → 0 < span ss → ⊥
unfolding span last_load
some_load ss none some = nothing_up (subst (λ (m : Option Segment). 0 < round_up (end_in_memory m) 4096) (no_load None ss none) some)

low_first : (s : Segment) (at : ℕ) → (s.vaddr / 4096 == 0) ≡ true → at % 4096 ≡ 0 → at ≤ ADDRESS_LIMIT → is_load s ≡ true → round_down (fixed_segment at s).vaddr 4096 ≡ at
unfolding fixed_segment round_down
low_first s at low whole small load =
    let first : s.vaddr / 4096 ≡ 0 = eqb-true (s.vaddr / 4096) 0 low in
    rw (load_moves s load) (omega (arith, first, whole, small))

-- ---- what is asked of the object that is read

pub record IsTakenBack (at : ℕ) (o x : Object) : Type 0 where
  pub program : is_program x.kind ≡ true
  pub tables : (xs : List ℕ) → all_back at (tables_of x) xs ≡ all_back at (tables_of o) xs
  pub words : other_words x ≡ other_words o
  pub page : page_of x ≡ at

module _ (bytes : List ℕ) (o : Object) (at : ℕ) (is : IsAt bytes o at) (some : 0 < at) (whole : at % 4096 ≡ 0) where
  abbrev p : List ℕ
  p = as_program bytes

  abbrev with_tables : List Range → Object
  with_tables T = record (fixed at o) { tables = T }

  spanned : 0 < o.span
  spanned = span_some p o is.pie.accepted is.other

  small : at < ADDRESS_LIMIT
  small = let n = spanned in omega (arith, n, is.ends)

  low_entry : o.entry < ADDRESS_LIMIT
  unfolding is_linked has_high
  low_entry =
      let high : Bool = nat_le ADDRESS_LIMIT o.entry || list_any is_high o.symbols in
      let a = and_both (not high && not (list_any lacks_value o.symbols)) (not (list_any (refers_badly o) o.relocations)) is.pie.linked in
      let b = and_both (not high) (not (list_any lacks_value o.symbols)) a.0 in
      below_limit o.entry (or_parts (nat_le ADDRESS_LIMIT o.entry) (list_any is_high o.symbols) (not_true high b.0)).0

  entry_same : (fixed_entry at o.entry == 0) ≡ (o.entry == 0)
  unfolding fixed
  entry_same = moves_stay.entry at o some small low_entry

  module _ (T : List Range) (same : AllZip IsSameRange T o.tables) where
    abbrev x : Object
    x = with_tables T

    dynamic_same : Alike (dynamic_of x) (dynamic_of o)
    unfolding dynamic_of
    dynamic_same = get_same DYNAMIC_TABLE T o.tables same

    symbols_same : Alike (symbols_of x) (symbols_of o)
    unfolding symbols_of
    symbols_same = get_same SYMBOLS_TABLE T o.tables same

    rela_same : Alike (rela_of x) (rela_of o)
    unfolding rela_of
    rela_same = get_same RELA_TABLE T o.tables same

    jmprel_same : Alike (jmprel_of x) (jmprel_of o)
    unfolding jmprel_of
    jmprel_same = get_same JMPREL_TABLE T o.tables same

    packed_same : Alike (packed_of x) (packed_of o)
    unfolding packed_of
    packed_same = get_same PACKED_TABLE T o.tables same

    symtabs_are : AllZip SameTable (map symbol_rows (symtabs_of x)) (map symbol_rows (symtabs_of o))
    unfolding symtabs_of
    symtabs_are = symtabs_same FIRST_SYMTAB T o.tables same

    entry_table : SameTable (record { kind = Entry; at = 0; count = if x.entry == 0 then 0 else 1 }) (record { kind = Entry; at = 0; count = if o.entry == 0 then 0 else 1 })
    unfolding fixed
    entry_table = inl (ap (λ (b : Bool). record { kind = Entry; at = 0; count = if b then 0 else 1 }) entry_same)

    main_same : AllZip SameTable (main_tables x) (main_tables o)
    unfolding main_tables fixed fixed_header
    main_same = (
      entry_table,
      (
        inl refl,
        (
          inl refl,
          (
            rows_same TagValue _ _ dynamic_same,
            (
              rows_same SymbolValue _ _ symbols_same,
              (
                rows_same RelocationPlace _ _ rela_same,
                (
                  rows_same RelativeAddend _ _ rela_same,
                  (
                    rows_same RelocationPlace _ _ jmprel_same,
                    (
                      rows_same RelativeAddend _ _ jmprel_same,
                      (rows_same PackedAddress _ _ packed_same, tt),
                    ),
                  ),
                ),
              ),
            ),
          ),
        ),
      ),
    )

    tables_back : (xs : List ℕ) → all_back at (tables_of x) xs ≡ all_back at (tables_of o) xs
    unfolding tables_of
    tables_back xs = back_same at (tables_of x) (tables_of o) xs (zip_append (main_tables x) (main_tables o) (map symbol_rows (symtabs_of x)) (map symbol_rows (symtabs_of o)) main_same symtabs_are)

    section_words_same : section_words x ≡ section_words o
    unfolding section_words fixed fixed_header
    section_words_same = ap (map (λ i. section_offset o.header i + 16)) (indices_same is_allocated is_allocated (fixed_section at) o.sections (λ i d lt. allocated_kept at _))

    symbols_kept : indices is_address (map (fixed_symbol at) o.symbols) ≡ indices is_address o.symbols
    symbols_kept =
        let kept : All (KeepsItsKind at) o.symbols = (movable bytes o at is.pie (omega (arith, small))).symbols in
        indices_same is_address is_address (fixed_symbol at) o.symbols (λ i d lt. address_kept at _ (kept i d lt))

    undefined_by : Alike (symbols_of x) (symbols_of o) → map (λ i. (symbols_of x).at + 24 * i + 8) (indices is_address o.symbols) ≡ map (λ i. (symbols_of o).at + 24 * i + 8) (indices is_address o.symbols)
    undefined_by (inl one) = ap (λ (w : Window). map (λ i. w.at + 24 * i + 8) (indices is_address o.symbols)) one
    undefined_by (inr none) =
        let count = symbols_size p o is.pie.accepted is.other in
        let empty : indices is_address o.symbols ≡ [] = none_indices is_address o.symbols (omega (arith, count, none.1)) in
        rw empty refl

    x_symbols : x.symbols ≡ map (fixed_symbol at) o.symbols
    unfolding fixed
    x_symbols = refl

    undefined_words_same : undefined_words x ≡ undefined_words o
    unfolding undefined_words
    undefined_words_same =
        ap (λ (ss : List Symbol). map (λ i. (symbols_of x).at + 24 * i + 8) (indices is_address ss)) x_symbols
        ∙ ap (map (λ i. (symbols_of x).at + 24 * i + 8)) symbols_kept ∙ undefined_by symbols_same

    packed_moved : places.last_packed o.packed (map (fixed_reloc at) o.relocations) ≡ map (fixed_reloc at) (places.last_packed o.packed o.relocations)
    packed_moved =
        ap (λ (n : ℕ). drop (n - o.packed) (map (fixed_reloc at) o.relocations)) (length-map o.relocations (fixed_reloc at))
        ∙ drop-map (fixed_reloc at) (length o.relocations - o.packed) o.relocations

    packed_spots : map (spot (map (fixed_segment at) o.segments)) (map (fixed_reloc at) (places.last_packed o.packed o.relocations)) ≡ map (spot o.segments) (places.last_packed o.packed o.relocations)
    unfolding reloc_outside
    packed_spots =
        let last = packed_is p o is.pie.accepted is.other in
        let addresses = relr.places (relr_table p o.segments (tags_of p o)) in
        let held : list_any (λ m. not (is_held false o.segments m)) (relocations.places (packed_relocs p o.segments addresses)) ≡ false =
        subst (λ (rs : List Reloc). list_any (λ m. not (is_held false o.segments m)) (relocations.places rs) ≡ false) last is.pie.accepted.packed_held in
        subst (λ (rs : List Reloc). map (spot (map (fixed_segment at) o.segments)) (map (fixed_reloc at) rs) ≡ map (spot o.segments) rs) (sym last) (spots_same p at o.segments addresses is.stands held)

    packed_words_same : packed_words x ≡ packed_words o
    unfolding packed_words fixed
    packed_words_same = ap (map (spot (map (fixed_segment at) o.segments))) packed_moved ∙ packed_spots

    words_same : other_words x ≡ other_words o
    unfolding other_words
    words_same = rw (section_words_same, undefined_words_same, packed_words_same) refl

    begins : begins_low o ≡ true
    unfolding is_laid_out
    begins =
        let a = and_both (begins_low o && has_loaded_symbols o && not (loads_sections o)) (not (writes_kept bytes o)) is.pie.laid_out in
        let b = and_both (begins_low o && has_loaded_symbols o) (not (loads_sections o)) a.0 in
        (and_both (begins_low o) (has_loaded_symbols o) b.0).0

    page_by : (m : Option Segment) → segment_of_kind PT_LOAD o.segments ≡ m → is_above m ≡ false → round_down (start_of (option_map (fixed_segment at) m)) 4096 ≡ at
    page_by None e low = absurd (some_load o.segments e (subst (λ (n : ℕ). 0 < n) is.pie.accepted.span spanned))
    page_by (Some s) e low = low_first s at (first (s.vaddr / 4096 == 0) low) whole (omega (arith, small)) (find_passes (is_of_kind PT_LOAD) o.segments s e)
      where
        first : (b : Bool) → not b ≡ false → b ≡ true
        first true h = refl
        first false h = absurd (true≢false h)

    page_is : page_of x ≡ at
    unfolding page_of fixed begins_low base_not_zero
    page_is =
        let low : is_above (segment_of_kind PT_LOAD o.segments) ≡ false = not_true _ begins in
        ap (λ (m : Option Segment). round_down (start_of m) 4096) (segment_found at PT_LOAD o.segments) ∙ page_by (segment_of_kind PT_LOAD o.segments) refl low

    with_tables_back : IsTakenBack at o x
    unfolding fixed
    with_tables_back = record { program = is.pie.program; tables = tables_back; words = words_same; page = page_is }

  pub taken_again : (y : Object) → IsFixed at o y → IsTakenBack at o y
  taken_again y fixed_as = subst (IsTakenBack at o) (sym fixed_as.same) (with_tables_back y.tables fixed_as.tables)
