-- What Back needs of an original's bytes, from its acceptance.
use Rattle.std.proofs.Common.{◌≡◌, ℕ, ◌+◌, ◌-◌, ◌*◌, ◌/◌, ◌^◌, ◌<◌, ◌≤◌, Bool, true, false, List, [], ◌∷◌, ◌++◌, length, get_or, map, take, drop, Ok, refl, sym, ap, subst, ◌∙◌, arith}
use Rattle.std.specs.Prelude.{◌||◌, not, nat_lt}
use Rattle.std.specs.List.{list_any, range_with_len, All}
use Rattle.std.specs.Result.{is_ok}
use Rattle.std.proofs.lemmas.Bool.{and_from, or_parts, or_from, true≢false, ltb-false, le-ltb}
use Rattle.std.proofs.lemmas.List.{length-append, take_at, drop_at, append-nil, map-append, get_or_append_left, get_or-append-add}
use Rattle.std.proofs.lemmas.Simd.{map-map}
use Rattle.std.proofs.lemmas.List.FromFn.{length-map-range_with_len, get_or-map-range_with_len}
use Rattle.pl_base.specs.Bytes.{IsBytes, word64}
use Rattle.pl_base.specs.Windows.{Window, within, share, AllIn}
use Rattle.pl_base.proofs.AnswerLaws.{refuse_none}
use Rattle.pl_base.proofs.WindowLaws.{length-within}
use Rattle.pl_elf.specs.Headers.{header, segments, sections}
use Rattle.pl_elf.specs.Kinds.{is_static}
use Rattle.pl_elf.specs.declared.header.Header.{Header}
use Rattle.pl_elf.specs.declared.segment.Segment.{Segment}
use Rattle.pl_elf.specs.declared.section.Section.{Section}
use Rattle.pl_dyn.specs.Entries.{tags}
use Rattle.pl_dyn.specs.declared.constants.TheConstants.{DT_SYMTAB, DT_HASH, DT_GNU_HASH, DT_VERSYM, DT_VERDEF, DT_VERNEED}
use Rattle.pl_dyn.specs.declared.tags.Tag.{Tag}
use Rattle.pl_sym.specs.declared.symbol.Symbol.{Symbol}
use Rattle.pl_relr.specs.Entries.{entries}
use Rattle.pl_relr.specs.Places as relr
use Rattle.pl_relr.specs.Places.{begins_odd, unpacked}
use Rattle.pl_relr.specs.declared.fault.RelrFault.TheVariants.{Packed}
use Rattle.pl_object.specs.Accepted.{Accepted, IsTabled, kept_windows, tags_of as object_tags}
use Rattle.pl_object.specs.FilePart.{file_window, in_file_part, loaded}
use Rattle.pl_object.specs.Named.{range_window}
use Rattle.pl_object.specs.Tables.{has_tag, window_range, dynamic_memory, symbols_memory, strings_memory, rela_memory, jmprel_memory, relr_memory, tables_memory, section_memory, main_windows, link_windows, header_window, segments_window, sections_window}
use Rattle.pl_object.specs.TableClauses.{meets, relr_table, bad_relr_tags, misplaced_relr, bad_relr_table, bad_packed}
use Rattle.pl_object.specs.Reads.{reads, headers, layout, object, static_object}
use Rattle.pl_object.specs.declared.linking.Linking.{Linking}
use Rattle.pl_dyn.specs.declared.dynamic.Dynamic.{Dynamic}
use Rattle.pl_object.proofs.AcceptedLaws.{IsDynamic, read_holds, accepted}
use Rattle.pl_object.proofs.TabledLaws.{table_is, tables_pass}
use Rattle.pl_base.specs.Sums.{is_aligned}
use Rattle.pl_object.specs.PlaceClauses.{spots, reloc_in_tables}
use Rattle.pl_object.specs.Relocations.{raw_width, reloc, reloc_at, relocs, packed_reloc, packed_relocs, place, places}
use Rattle.pl_object.specs.declared.object.Object.{Object}
use Rattle.pl_object.specs.declared.reloc.Reloc.{Reloc}
use Rattle.pl_move.proofs.ObjectLaws.{symtabs_in, window_in}
use Rattle.pl_form.specs.Back.{all_within}
use Rattle.pl_form.specs.Found.{has_tables, rela_in, jmprel_in, packed_in, row_windows, raw_place, raw_places, packed_places, all_places, places_by, word_windows, ss_of, secs_of, tags_of, places_of}
use Rattle.pl_form.proofs.ReaderLaws.{IsAcceptedAs, IsAccepted}
use Rattle.pl_form.proofs.StoredLaws.{same_rows}

-- ---- places by the symbols are those by the symbols' bytes

all_left : {X : Type 0} (P : X → Type 0) (xs ys : List X) → All P (xs ++ ys) → All P xs
all_left P xs ys all = λ i d lt. subst P (get_or_append_left xs ys d i lt) (all i d (omega (arith, lt, length-append xs ys)))

all_right : {X : Type 0} (P : X → Type 0) (xs ys : List X) → All P (xs ++ ys) → All P ys
all_right P xs ys all = λ i d lt. subst P (get_or-append-add xs ys i d) (all (length xs + i) d (omega (arith, lt, length-append xs ys)))

-- as wide as the bytes of a symbol table say
abbrev IsWide : List ℕ → Reloc → Type 0
IsWide t r = r.width ≡ raw_width t r.kind r.symbol

one_wide : (symbols : List Symbol) (t rows : List ℕ) (k : ℕ) → k < length rows / 24 → All (IsWide t) (relocs symbols rows) → IsWide t (reloc symbols rows k)
unfolding relocs
one_wide symbols t rows k lt wide =
    let d = reloc symbols rows k in
    let n : length (map (reloc symbols rows) (range_with_len 0 (length rows / 24))) ≡ length rows / 24 = length-map-range_with_len (reloc symbols rows) 0 (length rows / 24) in
    let at : get_or (map (reloc symbols rows) (range_with_len 0 (length rows / 24))) k d ≡ d = get_or-map-range_with_len (reloc symbols rows) 0 (length rows / 24) k k d lt (omega arith) in
    subst (IsWide t) at (wide k d (omega (arith, n, lt)))

one_place : (symbols : List Symbol) (t rows : List ℕ) (k : ℕ) → IsWide t (reloc symbols rows k) → place (reloc symbols rows k) ≡ raw_place t rows k
unfolding reloc_at
one_place symbols t rows k wide = ap (λ (n : ℕ). record { at = word64 (24 * k) rows; size = n }) wide

rows_are : (symbols : List Symbol) (t rows : List ℕ) → All (IsWide t) (relocs symbols rows) → places (relocs symbols rows) ≡ raw_places t rows
unfolding relocs raw_places
rows_are symbols t rows wide =
    let n : ℕ = length rows / 24 in
    map-map place (reloc symbols rows) (range_with_len 0 n)
    ∙ same_rows (λ (k : ℕ). place (reloc symbols rows k)) (raw_place t rows) n (record { at = 0; size = 0 }) (λ k lt. one_place symbols t rows k (one_wide symbols t rows k lt wide))

-- the words of a packed table name its places, which are not too many
abbrev AreNamed : List ℕ → Type 0
AreNamed table = unpacked table (2 ^ 32) ≡ Ok (relr.places table)

words_are : (bytes : List ℕ) (ss : List Segment) (table : List ℕ) → AreNamed table → places (packed_relocs bytes ss (relr.places table)) ≡ packed_places table
unfolding packed_relocs packed_places
words_are bytes ss table named = map-map place (packed_reloc bytes ss) (relr.places table) ∙ sym (ap word_windows named)

-- rows of RELA and of JMPREL and packed words, cut from the tables one after the other
all_places_are : (symbols : List Symbol) (bytes : List ℕ) (ss : List Segment) (rela jmprel packed t : List ℕ) (n m k : ℕ) → length rela ≡ n → length jmprel ≡ m → length packed ≡ k
    → All (IsWide t) (relocs symbols rela ++ relocs symbols jmprel ++ packed_relocs bytes ss (relr.places packed)) → AreNamed packed
    → places (relocs symbols rela ++ relocs symbols jmprel ++ packed_relocs bytes ss (relr.places packed)) ≡ all_places n m k (rela ++ (jmprel ++ (packed ++ (t ++ []))))
unfolding all_places
all_places_are symbols bytes ss rela jmprel packed t n m k a b c wide named =
    let A = relocs symbols rela in
    let B = relocs symbols jmprel in
    let C = packed_relocs bytes ss (relr.places packed) in
    let slots : List ℕ = jmprel ++ (packed ++ (t ++ [])) in
    let words : List ℕ = packed ++ (t ++ []) in
    let both = all_left (IsWide t) (A ++ B) C wide in
    let p = rows_are symbols t rela (all_left (IsWide t) A B both) in
    let q = rows_are symbols t jmprel (all_right (IsWide t) A B both) in
    let r = words_are bytes ss packed named in
    let ab : places A ++ places B ≡ raw_places t rela ++ raw_places t jmprel = rw (p, q) refl in
    let one : take n (rela ++ slots) ≡ rela = take_at rela slots n a in
    let two : drop n (rela ++ slots) ≡ slots = drop_at rela slots n a in
    let three : take m slots ≡ jmprel = take_at jmprel words m b in
    let four : drop m slots ≡ words = drop_at jmprel words m b in
    let five : take k words ≡ packed = take_at packed (t ++ []) k c in
    let six : drop k words ≡ t = drop_at packed (t ++ []) k c ∙ append-nil t in
    let cut_again : all_places n m k (rela ++ slots) ≡ (raw_places t rela ++ raw_places t jmprel) ++ packed_places packed = rw (two, one, four, three, six, five) refl in
    map-append place (A ++ B) C ∙ ap (λ (xs : List Window). xs ++ places C) (map-append place A B ∙ ab) ∙ ap (λ (xs : List Window). (raw_places t rela ++ raw_places t jmprel) ++ xs) r
    ∙ sym cut_again

-- ---- clause 26

windows_back : (ws : List Window) → map range_window (map window_range ws) ≡ ws
windows_back [] = refl
windows_back (w ∷ ws) =
    let same : w.at + w.size - w.at ≡ w.size = omega arith in
    ap (λ (n : ℕ). record { at = w.at; size = n } ∷ map range_window (map window_range ws)) same ∙ ap (λ (vs : List Window). w ∷ vs) (windows_back ws)

-- what is clear of the link tables and the section headers is clear of what moves and of what Back restores
one_kept : (h : Header) (ss : List Segment) (secs : List Section) (ts : List Tag) (w : Window) → meets (sections_window h ∷ link_windows h ss secs ts) w ≡ false → meets (packed_in ss ts ∷ main_windows h ss secs ts) w ≡ false
unfolding link_windows main_windows tables_memory
one_kept h ss secs ts w e =
    let p0 = or_parts (share w (sections_window h)) _ e in
    let p1 = or_parts (share w header_window) _ p0.1 in
    let p2 = or_parts (share w (segments_window h)) _ p1.1 in
    let p3 = or_parts (share w (file_window ss (dynamic_memory ss))) _ p2.1 in
    let p4 = or_parts (share w (file_window ss (symbols_memory ts secs))) _ p3.1 in
    let p5 = or_parts (share w (file_window ss (strings_memory ts))) _ p4.1 in
    let p6 = or_parts (share w (file_window ss (rela_memory ts))) _ p5.1 in
    let p7 = or_parts (share w (file_window ss (jmprel_memory ts))) _ p6.1 in
    let p8 = or_parts (share w (file_window ss (section_memory DT_HASH ts secs))) _ p7.1 in
    let p9 = or_parts (share w (file_window ss (section_memory DT_GNU_HASH ts secs))) _ p8.1 in
    let pa = or_parts (share w (file_window ss (section_memory DT_VERSYM ts secs))) _ p9.1 in
    let pb = or_parts (share w (file_window ss (section_memory DT_VERDEF ts secs))) _ pa.1 in
    let pc = or_parts (share w (file_window ss (section_memory DT_VERNEED ts secs))) _ pb.1 in
    let pd = or_parts (share w (file_window ss (relr_memory ts))) _ pc.1 in
    rw (pd.0, p1.0, p2.0, p0.0, p3.0, p4.0, p6.0, p7.0) pd.1

all_kept : (h : Header) (ss : List Segment) (secs : List Section) (ts : List Tag) (ws : List Window) → list_any (meets (sections_window h ∷ link_windows h ss secs ts)) ws ≡ false → list_any (meets (packed_in ss ts ∷ main_windows h ss secs ts)) ws ≡ false
all_kept h ss secs ts [] e = refl
all_kept h ss secs ts (w ∷ ws) e =
    let p = or_parts (meets (sections_window h ∷ link_windows h ss secs ts) w) (list_any (meets (sections_window h ∷ link_windows h ss secs ts)) ws) e in
    or_from _ _ (one_kept h ss secs ts w p.0) (all_kept h ss secs ts ws p.1)

clear_of : (o : Object) (ts : List Tag) → o.tables ≡ map window_range (link_windows o.header o.segments o.sections ts) → reloc_in_tables (kept_windows o) o.segments o.relocations ≡ false
    → list_any (meets (packed_in o.segments ts ∷ main_windows o.header o.segments o.sections ts)) (map (file_window o.segments) (places o.relocations)) ≡ false
unfolding reloc_in_tables spots
clear_of o ts shape e =
    let ws : map range_window o.tables ≡ link_windows o.header o.segments o.sections ts = ap (map range_window) shape ∙ windows_back (link_windows o.header o.segments o.sections ts) in
    all_kept o.header o.segments o.sections ts (map (file_window o.segments) (places o.relocations))
    (subst (λ (vs : List Window). list_any (meets (sections_window o.header ∷ vs)) (map (file_window o.segments) (places o.relocations)) ≡ false) ws e)

-- ---- clauses 9, 12 and 14

true_of : (b : Bool) → not b ≡ false → b ≡ true
true_of true h = refl
true_of false h = absurd (true≢false h)

tables_there : (o : Object) (ts : List Tag) → has_tag DT_SYMTAB ts ≡ true → list_any (λ w. not (in_file_part o.segments w)) (tables_memory ts o.sections) ≡ false → in_file_part o.segments (relr_memory ts) ≡ true → has_tables o.segments o.sections ts ≡ true
unfolding tables_memory
tables_there o ts symbols outside packed =
    let ss = o.segments in
    let o1 = or_parts (not (in_file_part ss (symbols_memory ts o.sections))) _ outside in
    let o2 = or_parts (not (in_file_part ss (strings_memory ts))) _ o1.1 in
    let o3 = or_parts (not (in_file_part ss (rela_memory ts))) _ o2.1 in
    let o4 = or_parts (not (in_file_part ss (jmprel_memory ts))) _ o3.1 in
    rw (symbols, true_of _ o1.0, true_of _ o3.0, true_of _ o4.0, packed) refl

-- ---- the whole

-- by the object's own parts
by_object : (o : List ℕ) (x : Object) (ts : List Tag) → IsBytes o → Accepted o x → IsTabled o x ts → IsAcceptedAs o x.header x.segments x.sections ts (places x.relocations)
by_object o x ts bytes is tabled = record {
  bytes = bytes;
  heads = (is.head.long, (is.head.segments_in, (is.head.sections_in, tt)));
  files = tabled.files;
  symtabs = subst (λ (ws : List Window). AllIn (length o) ws) tabled.named.symtabs (symtabs_in o x ts is tabled);
  dynamic = and_from _ _ tabled.whole.dynamic tabled.whole.dynamic_in;
  tables = tables_there x ts tabled.whole.symbols tabled.whole.tables_in tabled.whole.packed_in;
  overlap = tabled.apart;
  packed = tabled.packed_apart;
  clear = clear_of x ts tabled.shape is.clear;
}

-- the places by the object's own parts
abbrev places_at : List ℕ → List Segment → List Section → List Tag → List Window
places_at o ss secs ts = places_by ss ts (all_within (row_windows ss secs ts) o)

object_places : (o : List ℕ) (x : Object) (ts : List Tag) → IsTabled o x ts → AreNamed (relr_table o x.segments ts) → places x.relocations ≡ places_at o x.segments x.sections ts
unfolding loaded
object_places o x ts tabled named =
    let ss = x.segments in
    let size : (m : Window) → length (within (file_window ss m) o) ≡ (file_window ss m).size = λ m. length-within (file_window ss m) o (window_in o x ts m (file_window ss m) tabled refl) in
    let rela = loaded o ss (rela_memory ts) in
    let jmprel = loaded o ss (jmprel_memory ts) in
    let packed = relr_table o ss ts in
    let t = loaded o ss (symbols_memory ts x.sections) in
    ap places tabled.rows
    ∙ all_places_are x.symbols o ss rela jmprel packed t (rela_in ss ts).size (jmprel_in ss ts).size (packed_in ss ts).size (size (rela_memory ts)) (size (jmprel_memory ts)) (size (relr_memory ts))
    (subst (λ (rs : List Reloc). All (IsWide t) rs) tabled.rows tabled.widths) named

-- the words of the packed table of an object name its places
pub IsNamed : List ℕ → Object → Type 0
IsNamed o x = AreNamed (relr_table o x.segments (object_tags o x))

-- an accepted original's segments, sections, tags and places by its own bytes
pub segments_are : (o : List ℕ) (x : Object) → Accepted o x → x.segments ≡ ss_of o
segments_are o x is = sym is.head.segments ∙ ap (segments o) (sym is.head.header)

pub sections_are : (o : List ℕ) (x : Object) → Accepted o x → x.sections ≡ secs_of o
sections_are o x is = sym is.head.sections ∙ ap (sections o) (sym is.head.header)

pub tags_are : (o : List ℕ) (x : Object) → Accepted o x → object_tags o x ≡ tags_of o
unfolding loaded
tags_are o x is = ap (λ (xs : List Segment). tags (within (file_window xs (dynamic_memory xs)) o)) (segments_are o x is)

pub places_are : (o : List ℕ) (x : Object) → Accepted o x → is_static x.kind ≡ false → IsNamed o x → places x.relocations ≡ places_of o
unfolding IsNamed
places_are o x is other named =
    let ts = object_tags o x in
    object_places o x ts (is.tabled other) named
    ∙ ap (λ (xs : List Segment). places_at o xs x.sections ts) (segments_are o x is)
    ∙ ap (λ (xs : List Section). places_at o (ss_of o) xs ts) (sections_are o x is)
    ∙ ap (λ (xs : List Tag). places_at o (ss_of o) (secs_of o) xs) (tags_are o x is)

pub is_accepted : (o : List ℕ) (x : Object) → IsBytes o → Accepted o x → is_static x.kind ≡ false → IsNamed o x → IsAccepted o
is_accepted o x bytes is other named =
    let ts = object_tags o x in
    let h : x.header ≡ header o = sym is.head.header in
    let a = by_object o x ts bytes is (is.tabled other) in
    let b = subst (λ (y : Header). IsAcceptedAs o y x.segments x.sections ts (places x.relocations)) h a in
    let c = subst (λ (xs : List Segment). IsAcceptedAs o (header o) xs x.sections ts (places x.relocations)) (segments_are o x is) b in
    let d = subst (λ (xs : List Section). IsAcceptedAs o (header o) (ss_of o) xs ts (places x.relocations)) (sections_are o x is) c in
    let e = subst (λ (xs : List Tag). IsAcceptedAs o (header o) (ss_of o) (secs_of o) xs (places x.relocations)) (tags_are o x is) d in
    subst (λ (xs : List Window). IsAcceptedAs o (header o) (ss_of o) (secs_of o) (tags_of o) xs) (places_are o x is other named) e

-- ---- clause 14

named_more : (table : List ℕ) (few most : ℕ) → few ≤ most → is_ok (unpacked table few) ≡ true → unpacked table most ≡ Ok (relr.places table)
unfolding unpacked
named_more table few most le ok =
    let none = refuse_none ((not (is_aligned (length table) 8), Packed) ∷ (begins_odd (entries table), Packed) ∷ (nat_lt few (length (relr.places table)), Packed) ∷ []) (Ok (relr.places table)) ok in
    let a = or_parts (not (is_aligned (length table) 8)) _ none in
    let b = or_parts (begins_odd (entries table)) _ a.1 in
    let c = or_parts (nat_lt few (length (relr.places table))) _ b.1 in
    let small : length (relr.places table) ≤ few = ltb-false few (length (relr.places table)) c.0 in
    rw (a.0, b.0, le-ltb most (length (relr.places table)) (omega (arith, small, le))) refl

table_named : (o : List ℕ) (h : Header) (ss : List Segment) (secs : List Section) (ts : List Tag) → length o < 2 ^ 32 → bad_packed o h ss secs ts ≡ false → AreNamed (relr_table o ss ts)
unfolding bad_packed bad_relr_table
table_named o h ss secs ts few e = named_more (relr_table o ss ts) (length o / 8) (2 ^ 32) (omega (arith, few)) (true_of _ (or_parts (bad_relr_tags ts || misplaced_relr h ss secs ts) _ e).1)

dynamic_named : (o : List ℕ) (h : Header) (d : Dynamic) (l : Linking) → length o < 2 ^ 32 → IsDynamic o h d l → IsNamed o (object (headers o h) d l (layout o (headers o h) d.tags l))
unfolding object headers IsNamed
dynamic_named o h d l few is =
    let ss = segments o h in
    let passed = tables_pass o h ss (sections o h) d.tags tt is.tables in
    let told = (table_is o ss d is.entries).tags in
    subst (λ (ts : List Tag). AreNamed (relr_table o ss ts)) told (table_named o h ss (sections o h) d.tags few passed.packed)

pub named_of : (o : List ℕ) (x : Object) → length o < 2 ^ 32 → reads o ≡ Ok x → is_static x.kind ≡ false → IsNamed o x
unfolding static_object
named_of o x few e other = read_holds (λ (y : Object). is_static y.kind ≡ false → IsNamed o y) o (λ h _ none. absurd (true≢false none)) (λ h d l is _. dynamic_named o h d l few is) x e other

pub reads_accepted : (o : List ℕ) (x : Object) → IsBytes o → length o < 2 ^ 32 → reads o ≡ Ok x → is_static x.kind ≡ false → IsAccepted o
reads_accepted o x bytes few e other = is_accepted o x bytes (accepted o x e) other (named_of o x few e other)
