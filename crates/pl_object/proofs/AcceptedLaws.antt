-- An object that is read from a file meets what is known of accepted objects.
use Rattle.std.proofs.Common.{◌≡◌, ℕ, zero, suc, ◌-◌, ◌/◌, ◌<◌, ◌≤◌, Bool, true, false, ◌||◌, ◌∷◌, List, [], ◌++◌, length, map, take, drop, length-drop, length-append, take-append-drop, get_or, Option, Some, None, Result, Ok, Err, refl, sym, ap, ◌∙◌, subst, arith, inl, inr}
use Rattle.std.specs.Prelude.{◌==◌, ◌&&◌, find, IfOk, not, if◌then◌else◌}
use Rattle.std.specs.List.{list_any, list_all, All}
use Rattle.std.specs.Result.{is_ok}
use Rattle.std.proofs.lemmas.Bool.{cases_Bool, or_parts, or_from, and_parts, leb-true, not-false, true≢false, false≢true}
use Rattle.std.proofs.lemmas.List.{length-take, length-map, map-append}
use Rattle.std.proofs.lemmas.List.Elements.{All-nil, All-cons, All-append}
use Rattle.std.proofs.lemmas.List.Folds.{list_any-append}
use Rattle.pl_base.specs.Answers.{◌>>=◌, Answers, unless_found, because}
use Rattle.pl_base.proofs.AnswerLaws.{refuse_none, because_ok, bind_ok, ok_same, unless_ok}
use Rattle.pl_base.proofs.FindLaws.{any_missed}
use Rattle.pl_base.specs.Windows.{Window, end_of}
use Rattle.pl_elf.specs.Headers.{segments, sections, loads}
use Rattle.pl_elf.specs.Clauses as elf
use Rattle.pl_elf.specs.Clauses.{AreLoads, overlap_in_file}
use Rattle.pl_elf.specs.declared.fault.HeaderFault.{HeaderFault}
use Rattle.pl_elf.specs.declared.header.Header.{Header}
use Rattle.pl_elf.specs.declared.constants.TheConstants.{ET_EXEC}
use Rattle.pl_elf.specs.declared.segment.Segment.{Segment}
use Rattle.pl_elf.specs.declared.section.Section.{Section}
use Rattle.pl_elf.specs.declared.range.Range.{Range}
use Rattle.pl_elf.proofs.AcceptedLaws.{loads_accepted, files_apart}
use Rattle.pl_dyn.specs.declared.constants.TheConstants.{DT_HASH, DT_GNU_HASH}
use Rattle.pl_dyn.specs.declared.tags.Tag.{Tag}
use Rattle.pl_dyn.specs.declared.dynamic.Dynamic.{Dynamic}
use Rattle.pl_sym.specs.Table as table
use Rattle.pl_sym.specs.declared.constants.TheConstants.{SYMBOL_SIZE}
use Rattle.pl_sym.specs.declared.symbol.Symbol.{Symbol}
use Rattle.pl_hash.specs.Chain.{well_formed, IsWellFormed}
use Rattle.pl_hash.specs.Table.{HashTable}
use Rattle.pl_hash.proofs.WholeLaws.{IsWellFormed-from}
use Rattle.pl_ver.specs.declared.versions.Versions.{Versions}
use Rattle.pl_object.specs.FilePart.{file_window, in_file_part, loaded}
use Rattle.pl_object.specs.Tables.{has_tag, dynamic_memory, symbols_memory, rela_memory, jmprel_memory, section_memory, sections_window, window_range, static_windows}
use Rattle.pl_object.specs.Names.{strings, needed, symbols, versions, versioned}
use Rattle.pl_object.specs.SymbolClauses.{has_ifunc, check_symbols, base_not_zero, hash_table, hash_tables, defines, misses_one, is_incomplete, hash_incomplete, duplicate_definer}
use Rattle.pl_object.specs.TableClauses.{check_tables}
use Rattle.pl_object.specs.Relocations.{width, raw_width, relocs, packed_reloc, packed_relocs, place, places}
use Rattle.pl_object.specs.PlaceClauses.{is_bad, first_bad, is_held, reloc_outside, rows_of, last_packed, any_place_outside, reloc_overlap, reloc_in_tables, spots, odd_addend, misplaced_copy, check_places, check_relocs}
use Rattle.pl_object.specs.Reads.{reads, headers, parts, static_program, static_object, dynamic as table_read, dynamic_object, linking, layout, relocations, packed_places, check, checked, check_rest, too_large, is_pie, object}
use Rattle.pl_object.specs.Accepted.{HasHead, tags_of, IsTabled, Accepted}
use Rattle.pl_object.specs.Refusals.{is_memory, of_header, of_dynamic, of_symbols}
use Rattle.pl_object.specs.declared.headers.Headers.{Headers}
use Rattle.pl_object.specs.declared.linking.Linking.{Linking}
use Rattle.pl_object.specs.declared.object.Object.{Object}
use Rattle.pl_object.specs.declared.reloc.Reloc.{Reloc}
use Rattle.pl_object.specs.declared.refusal.Refusal.{Refusal}
use Rattle.pl_object.specs.declared.refusal.Refusal.TheVariants.{Clause}
use Rattle.pl_object.proofs.ExtentLaws.{is_in, header_read, are_in_file, link_windows_in, static_windows_in}
use Rattle.pl_object.proofs.NameLaws.{symbols_fit, length-versioned}
use Rattle.pl_object.proofs.SpanLaws.{some_span}
use Rattle.pl_object.proofs.WidthLaws.{none_at, HasWidth, all_widths, length-symbols, width_is, raw_widths}
use Rattle.pl_object.proofs.TabledLaws.{table_is, tables_pass, packed_is, IsMade, whole_is, named_is, windows_back}

-- ---- results that are not refused

unfound : {A X E : Type 0} (found : Option A) (fault : A → E) (next : Result X E) (x : X) → unless_found found fault next ≡ Ok x → (found ≡ None) × (next ≡ Ok x)
unfound (Some a) fault next x e = absurd cc
unfound None fault next x e = (refl, e)

-- ---- relocations

places_pass : (program : Bool) (ss : List Segment) (ws : List Window) (packed : ℕ) (rs : List Reloc) (u : Unit {0}) → check_places program ss ws packed rs ≡ Ok u
    → (any_place_outside program ss packed rs || (reloc_overlap rs || (reloc_in_tables ws ss rs || (odd_addend rs || false)))) ≡ false
unfolding check_places
places_pass program ss ws packed rs u e =
    refuse_none ((any_place_outside program ss packed rs, Clause 24 0) ∷ (reloc_overlap rs, Clause 25 0) ∷ (reloc_in_tables ws ss rs, Clause 26 0) ∷ (odd_addend rs, Clause 27 0) ∷ []) (Ok tt) (ap (λ (r : Result (Unit {0}) Refusal). is_ok r) e)

-- where no place is outside of the file part, none is outside of it and of the memory of the last PT_LOAD
inside_either : (program : Bool) (ss : List Segment) (m : Window) → not (is_held false ss m) ≡ false → not (is_held program ss m) ≡ false
unfolding is_held
inside_either program ss m e = elim (cases_Bool (in_file_part ss m)) [
  | inl hit ↦ rw hit refl
  | inr miss ↦ absurd (true≢false (rw miss at e))
]

all_either : (program : Bool) (ss : List Segment) (ms : List Window) → list_any (λ m. not (is_held false ss m)) ms ≡ false → list_any (λ m. not (is_held program ss m)) ms ≡ false
all_either program ss [] e = refl
all_either program ss (m ∷ ms) e =
    let p = or_parts (not (is_held false ss m)) (list_any (λ w. not (is_held false ss w)) ms) e in
    or_from _ _ (inside_either program ss m p.0) (all_either program ss ms p.1)

places_append : (xs ys : List Reloc) → places (xs ++ ys) ≡ places xs ++ places ys
places_append xs ys = map-append place xs ys

all_held : (program : Bool) (ss : List Segment) (packed : ℕ) (rs : List Reloc) → reloc_outside program ss (rows_of packed rs) ≡ false → reloc_outside false ss (last_packed packed rs) ≡ false → reloc_outside program ss rs ≡ false
unfolding reloc_outside
all_held program ss packed rs rows last =
    let n : ℕ = length rs - packed in
    let out : Window → Bool = λ m. not (is_held program ss m) in
    let both : (list_any out (places (take n rs)) || list_any out (places (drop n rs))) ≡ false = or_from _ _ rows (all_either program ss (places (drop n rs)) last) in
    ap (λ (xs : List Reloc). list_any out (places xs)) (sym (take-append-drop n rs))
    ∙ ap (list_any out) (places_append (take n rs) (drop n rs))
    ∙ list_any-append out (places (take n rs)) (places (drop n rs)) ∙ both

pub record AreChecked (program : Bool) (ss : List Segment) (ws : List Window) (count packed : ℕ) (rs : List Reloc) : Type 0 where
  pub relocs : list_any (is_bad count) rs ≡ false
  pub held : reloc_outside program ss rs ≡ false
  pub packed_held : reloc_outside false ss (last_packed packed rs) ≡ false
  pub apart : reloc_overlap rs ≡ false
  pub clear : reloc_in_tables ws ss rs ≡ false
  pub plain : odd_addend rs ≡ false

relocs_pass : (program : Bool) (ss : List Segment) (ws : List Window) (count packed : ℕ) (rs : List Reloc) (u : Unit {0}) → check_relocs program ss ws count packed rs ≡ Ok u → AreChecked program ss ws count packed rs
unfolding check_relocs first_bad any_place_outside
relocs_pass program ss ws count packed rs u e =
    let p = unfound (find (is_bad count) rs) (λ r. Clause 23 r.kind) (check_places program ss ws packed rs) u e in
    let all = places_pass program ss ws packed rs u p.1 in
    let a = or_parts (any_place_outside program ss packed rs) (reloc_overlap rs || (reloc_in_tables ws ss rs || (odd_addend rs || false))) all in
    let h = or_parts (reloc_outside program ss (rows_of packed rs)) (reloc_outside false ss (last_packed packed rs)) a.0 in
    let b = or_parts (reloc_overlap rs) (reloc_in_tables ws ss rs || (odd_addend rs || false)) a.1 in
    let c = or_parts (reloc_in_tables ws ss rs) (odd_addend rs || false) b.1 in
    let d = or_parts (odd_addend rs) false c.1 in
    record { relocs = any_missed (is_bad count) rs p.0; held = all_held program ss packed rs h.0 h.1; packed_held = h.1; apart = b.0; clear = c.0; plain = d.0 }

rest_passes : (bytes : List ℕ) (h : Header) (ss : List Segment) (tags : List Tag) (symbols : List Symbol) (rs : List Reloc) (u : Unit {0}) → check_rest bytes h ss tags symbols rs ≡ Ok u → misplaced_copy (h.kind == ET_EXEC) rs ≡ false
unfolding check_rest
rest_passes bytes h ss tags symbols rs u e =
    let all = refuse_none ((has_ifunc symbols, Clause 28 0) ∷ (misplaced_copy (h.kind == ET_EXEC) rs, Clause 29 0) ∷ (too_large bytes, Clause 30 0) ∷ (is_pie h ss tags, Clause 31 0) ∷ []) (Ok tt) (ap (λ (r : Result (Unit {0}) Refusal). is_ok r) e) in
    let a = or_parts (has_ifunc symbols) (misplaced_copy (h.kind == ET_EXEC) rs || (too_large bytes || (is_pie h ss tags || false))) all in
    (or_parts (misplaced_copy (h.kind == ET_EXEC) rs) (too_large bytes || (is_pie h ss tags || false)) a.1).0

-- no more packed relocations than relocations
packed_most : (symbols : List Symbol) (rela jmprel bytes : List ℕ) (ss : List Segment) (addresses : List ℕ) → length addresses ≤ length (relocs symbols rela ++ relocs symbols jmprel ++ packed_relocs bytes ss addresses)
unfolding packed_relocs
packed_most symbols rela jmprel bytes ss addresses =
    let last : length (map (packed_reloc bytes ss) addresses) ≡ length addresses = length-map addresses (packed_reloc bytes ss) in
    omega (arith, last, length-append (relocs symbols rela ++ relocs symbols jmprel) (map (packed_reloc bytes ss) addresses))

-- ---- link tables

ranges_in : (size : ℕ) (ws : List Window) → list_all (is_in size) ws ≡ true → (i : ℕ) (d : Range) → i < length (map window_range ws) → (get_or (map window_range ws) i d).end ≤ size
ranges_in size [] all i d lt = absurd (omega (arith, lt))
ranges_in size (w ∷ ws) all zero d lt = leb-true (end_of w) size (and_parts (is_in size w) (list_all (is_in size) ws) all).0
ranges_in size (w ∷ ws) all (suc i) d lt = ranges_in size ws (and_parts (is_in size w) (list_all (is_in size) ws) all).1 i d (omega (arith, lt))

-- ---- symbols

part_fits : (n k : ℕ) (xs : List ℕ) → length (take n (drop k xs)) ≤ length xs
part_fits n k xs = omega (arith, length-take n (drop k xs), length-drop k xs)

-- the symbols as they are read, and those of the object, which have their versions
record AreLinked (bytes : List ℕ) (f : Headers) (tags : List Tag) (l : Linking) : Type 0 where
  bare : List Symbol
  known : Option Versions
  is : versioned bare known ≡ l.symbols
  read : table.symbols (loaded bytes f.segments (symbols_memory tags f.sections)) (strings bytes f.segments tags) ≡ Ok bare

linked : (bytes : List ℕ) (f : Headers) (tags : List Tag) (l : Linking) → linking bytes f tags ≡ Ok l → AreLinked bytes f tags l
unfolding linking symbols
linked bytes f tags l e =
    let names = bind_ok (needed tags (strings bytes f.segments tags)) _ l e in
    let bare = bind_ok (symbols bytes f.segments f.sections tags) _ l names.2 in
    let known = bind_ok (versions bytes f.segments f.sections tags bare.0) _ l bare.2 in
    record { bare = bare.0; known = known.0; is = ap (λ (x : Linking). x.symbols) (ok_same _ l known.2); read = because_ok of_symbols _ bare.0 bare.1 }

few_symbols : (bytes : List ℕ) (f : Headers) (tags : List Tag) (l : Linking) → linking bytes f tags ≡ Ok l → length l.symbols ≤ length bytes
unfolding loaded
few_symbols bytes f tags l e =
    let k = linked bytes f tags l e in
    let window = file_window f.segments (symbols_memory tags f.sections) in
    let fit = symbols_fit (loaded bytes f.segments (symbols_memory tags f.sections)) (strings bytes f.segments tags) k.bare k.read in
    omega (arith, ap length k.is, length-versioned k.bare k.known, fit, part_fits window.size window.at bytes)

symbol_count : (bytes : List ℕ) (f : Headers) (tags : List Tag) (l : Linking) → AreLinked bytes f tags l → length l.symbols ≡ length (loaded bytes f.segments (symbols_memory tags f.sections)) / SYMBOL_SIZE
symbol_count bytes f tags l k = sym (ap length k.is) ∙ length-versioned k.bare k.known ∙ length-symbols _ _ k.bare k.read

symbol_width : (bytes : List ℕ) (f : Headers) (tags : List Tag) (l : Linking) → AreLinked bytes f tags l → (kind symbol : ℕ) → symbol < length l.symbols
    → width l.symbols kind symbol ≡ raw_width (loaded bytes f.segments (symbols_memory tags f.sections)) kind symbol
symbol_width bytes f tags l k kind symbol lt =
    let t = loaded bytes f.segments (symbols_memory tags f.sections) in
    subst (λ (xs : List Symbol). symbol < length xs → width xs kind symbol ≡ raw_width t kind symbol) k.is (λ lt'. width_is t (strings bytes f.segments tags) k.bare k.known kind symbol k.read lt') lt

-- ---- hash tables

table_counted : (bytes : List ℕ) (ss : List Segment) (secs : List Section) (tags : List Tag) (count : ℕ) (gnu : Bool) (number : ℕ) → All (λ table. table.symbols ≡ count) (hash_table bytes ss secs tags count gnu number)
unfolding hash_table
table_counted bytes ss secs tags count gnu number =
    elim (has_tag number tags) as (λ b. All (λ (t : HashTable). t.symbols ≡ count) (if b then record { words = loaded bytes ss (section_memory number tags secs); gnu = gnu; symbols = count } ∷ [] else [])) [
      | true ↦ All-cons (λ (t : HashTable). t.symbols ≡ count) _ [] refl (All-nil (λ (t : HashTable). t.symbols ≡ count))
      | false ↦ All-nil (λ (t : HashTable). t.symbols ≡ count)
    ]

tables_counted : (bytes : List ℕ) (ss : List Segment) (secs : List Section) (tags : List Tag) (count : ℕ) → All (λ table. table.symbols ≡ count) (hash_tables bytes ss secs tags count)
unfolding hash_tables
tables_counted bytes ss secs tags count =
    All-append (λ (t : HashTable). t.symbols ≡ count) (hash_table bytes ss secs tags count false DT_HASH) (hash_table bytes ss secs tags count true DT_GNU_HASH)
    (table_counted bytes ss secs tags count false DT_HASH) (table_counted bytes ss secs tags count true DT_GNU_HASH)

one_formed : (symbols : List Symbol) (t : HashTable) → is_incomplete symbols t ≡ false → IsWellFormed t
unfolding is_incomplete
one_formed symbols t e = IsWellFormed-from t (not-false _ (or_parts (not (well_formed t)) (misses_one symbols t) e).0)

tables_formed : (tables : List HashTable) (symbols : List Symbol) → hash_incomplete tables symbols ≡ false → All IsWellFormed tables
unfolding hash_incomplete
tables_formed tables symbols e =
    let p = or_parts (length tables == 0 && list_any defines symbols) (list_any (is_incomplete symbols) tables) e in
    λ k d lt. one_formed symbols (get_or tables k d) (none_at (is_incomplete symbols) tables k d lt p.1)

symbols_pass : (program : Bool) (ss : List Segment) (tables : List HashTable) (known : Option Versions) (symbols : List Symbol) (u : Unit {0}) → check_symbols program ss tables known symbols ≡ Ok u → hash_incomplete tables symbols ≡ false
unfolding check_symbols
symbols_pass program ss tables known symbols u e =
    let none = refuse_none ((base_not_zero program ss, Clause 20 0) ∷ (hash_incomplete tables symbols, Clause 21 0) ∷ (duplicate_definer known program symbols, Clause 22 0) ∷ []) (Ok tt) (ap (λ (r : Result (Unit {0}) Refusal). is_ok r) e) in
    let p = or_parts (base_not_zero program ss) (hash_incomplete tables symbols || (duplicate_definer known program symbols || false)) none in
    (or_parts (hash_incomplete tables symbols) (duplicate_definer known program symbols || false) p.1).0

-- ---- what led to an object

-- what the clauses read of a static program, and that they passed
pub record IsStatic (bytes : List ℕ) (h : Header) : Type 0 where
  pub read : elf.read bytes ≡ Ok h
  pub alone : elf.is_static_file bytes h ≡ true
  pub small : too_large bytes ≡ false

-- the same of a file with a dynamic table
pub record IsDynamic (bytes : List ℕ) (h : Header) (d : Dynamic) (l : Linking) : Type 0 where
  pub read : elf.read bytes ≡ Ok h
  pub other : elf.is_static_file bytes h ≡ false
  pub entries : table_read bytes (segments bytes h) ≡ Ok d
  pub tables : check_tables bytes h (segments bytes h) (sections bytes h) d.tags ≡ Ok tt
  pub names : linking bytes (headers bytes h) d.tags ≡ Ok l
  pub checks : check bytes (headers bytes h) d.tags l (layout bytes (headers bytes h) d.tags l) ≡ Ok tt

-- a property of the object of every static program and of every file with a dynamic table holds of each object that is read
pub read_holds : (P : Object → Type 0) (bytes : List ℕ) → ((h : Header) → IsStatic bytes h → P (static_object (headers bytes h)))
    → ((h : Header) (d : Dynamic) (l : Linking) → IsDynamic bytes h d l → P (object (headers bytes h) d l (layout bytes (headers bytes h) d.tags l))) → (o : Object) → reads bytes ≡ Ok o → P o
unfolding reads parts static_program dynamic_object checked headers
read_holds P bytes static dynamic o e =
    let p = bind_ok (because of_header (elf.read bytes)) (λ h. parts bytes (headers bytes h)) o e in
    let h = p.0 in
    let f = headers bytes h in
    let read = because_ok of_header (elf.read bytes) h p.1 in
    elim (cases_Bool (elf.is_static_file bytes h)) [
      | inl alone ↦
          let s = unless_ok (too_large bytes) (Clause 30 0) (Ok (static_object f)) o (rw alone at p.2) in
          subst P (ok_same (static_object f) o s.1) (static h (record { read = read; alone = alone; small = s.0 }))
      | inr other ↦
          let d = bind_ok (because of_dynamic (table_read bytes f.segments)) (dynamic_object bytes f) o (rw other at p.2) in
          let t = bind_ok (check_tables bytes h f.segments f.sections d.0.tags) (λ _. linking bytes f d.0.tags >>= λ l. checked bytes f d.0 l (layout bytes f d.0.tags l)) o d.2 in
          let l = bind_ok (linking bytes f d.0.tags) (λ l. checked bytes f d.0 l (layout bytes f d.0.tags l)) o t.2 in
          let places = layout bytes f d.0.tags l.0 in
          let c = bind_ok (check bytes f d.0.tags l.0 places) (λ _. Ok (object f d.0 l.0 places)) o l.2 in
          let is : IsDynamic bytes h d.0 l.0 = record { read = read; other = other; entries = because_ok of_dynamic (table_read bytes f.segments) d.0 d.1; tables = t.1; names = l.1; checks = c.1 } in
          subst P {x = object f d.0 l.0 places} (ok_same (object f d.0 l.0 places) o c.2) (dynamic h d.0 l.0 is)
    ]

-- ---- the whole

loads_read : (bytes : List ℕ) (h : Header) → elf.read bytes ≡ Ok h → AreLoads (loads (segments bytes h))
loads_read bytes h read = rw (header_read bytes h read) at (loads_accepted bytes (ap (λ (r : Result Header HeaderFault). is_ok r) read))

head_is : (bytes : List ℕ) (h : Header) (o : Object) → elf.read bytes ≡ Ok h → o.header ≡ h → segments bytes h ≡ o.segments → sections bytes h ≡ o.sections → HasHead bytes o
head_is bytes h o read same ss secs =
    let are = are_in_file bytes h read in
    record {
      header = header_read bytes h read ∙ sym same;
      segments = ap (segments bytes) same ∙ ss;
      sections = ap (sections bytes) same ∙ secs;
      long = are.header;
      segments_in = rw same are.table;
      sections_in = rw same are.rows;
    }

apart_read : (bytes : List ℕ) (h : Header) → elf.read bytes ≡ Ok h → overlap_in_file (segments bytes h) ≡ false
apart_read bytes h read = rw (header_read bytes h read) at (files_apart bytes (ap (λ (r : Result Header HeaderFault). is_ok r) read))

accepted_static : (bytes : List ℕ) (h : Header) → IsStatic bytes h → Accepted bytes (static_object (headers bytes h))
unfolding headers static_object reloc_outside reloc_overlap reloc_in_tables spots odd_addend misplaced_copy hash_incomplete
accepted_static bytes h is = record {
  head = head_is bytes h (static_object (headers bytes h)) is.read refl refl refl;
  loads = loads_read bytes h is.read;
  files_apart = apart_read bytes h is.read;
  span = refl;
  align = refl;
  some = λ library. absurd (false≢true library);
  tables = ranges_in (length bytes) (static_windows h (sections bytes h)) (static_windows_in bytes h is.read);
  tabled = λ other. absurd (true≢false other);
  few = omega arith;
  formed = All-nil IsWellFormed;
  counted = All-nil (λ (t : HashTable). t.symbols ≡ 0);
  hashed = refl;
  relocs = refl;
  widths = All-nil (HasWidth []);
  held = refl;
  packed_few = omega arith;
  packed_held = refl;
  apart = refl;
  clear = refl;
  plain = refl;
  copies = refl;
}

tabled_by : (bytes : List ℕ) (o : Object) (d : Dynamic) → IsMade o bytes d
    → o.relocations ≡ relocs o.symbols (loaded bytes o.segments (rela_memory d.tags)) ++ relocs o.symbols (loaded bytes o.segments (jmprel_memory d.tags)) ++ packed_relocs bytes o.segments (packed_places bytes o.segments d.tags)
    → o.packed ≡ length (packed_places bytes o.segments d.tags)
    → o.spare ≡ d.spare → o.hashes ≡ hash_tables bytes o.segments o.sections d.tags (length o.symbols)
    → All (λ r. r.width ≡ raw_width (loaded bytes o.segments (symbols_memory d.tags o.sections)) r.kind r.symbol) o.relocations
    → IsTabled bytes o (tags_of bytes o)
tabled_by bytes o d is rows packed spare hashes widths =
    let relr = packed_is bytes o.header o.segments o.sections d.tags is.passed.packed in
    subst (λ (ts : List Tag). IsTabled bytes o ts) is.table.tags (record {
      files = is.files;
      shape = is.shape;
      named = named_is o bytes d is;
      whole = whole_is o bytes d is;
      apart = is.passed.overlap;
      packed_apart = relr.apart;
      rows = rw (← relr.places) rows;
      packed = rw (← relr.places) packed;
      widths = widths;
      ended = rw spare is.table.whole;
      hashes = hashes;
    })

accepted_dynamic : (bytes : List ℕ) (h : Header) (d : Dynamic) (l : Linking) → IsDynamic bytes h d l → Accepted bytes (object (headers bytes h) d l (layout bytes (headers bytes h) d.tags l))
unfolding headers check layout object relocations
accepted_dynamic bytes h d l is =
    let f = headers bytes h in
    let ss = segments bytes h in
    let places = layout bytes f d.tags l in
    let o = object f d l places in
    let s = bind_ok (check_symbols (h.kind == ET_EXEC) f.segments places.hashes l.versions l.symbols) _ tt is.checks in
    let r = bind_ok (check_relocs (h.kind == ET_EXEC) f.segments (sections_window h ∷ places.windows) (length l.symbols) places.packed places.relocations) _ tt s.2 in
    let pass = relocs_pass (h.kind == ET_EXEC) f.segments (sections_window h ∷ places.windows) (length l.symbols) places.packed places.relocations r.0 r.1 in
    let windows = windows_back places.windows in
    let k = linked bytes f d.tags l is.names in
    let files = are_in_file bytes h is.read in
    let hashed = symbols_pass (h.kind == ET_EXEC) f.segments places.hashes l.versions l.symbols s.0 s.1 in
    let wide : All (HasWidth l.symbols) places.relocations = all_widths l.symbols (loaded bytes ss (rela_memory d.tags)) (loaded bytes ss (jmprel_memory d.tags)) bytes ss (packed_places bytes ss d.tags) in
    let made : IsMade o bytes d = record {
      files = rw is.other at files.segments;
      table = table_is bytes ss d is.entries;
      passed = tables_pass bytes h ss (sections bytes h) d.tags tt is.tables;
      symbols = symbol_count bytes f d.tags l k;
      shape = refl;
    } in
    let raw = raw_widths (loaded bytes ss (symbols_memory d.tags (sections bytes h))) l.symbols places.relocations pass.relocs wide (symbol_width bytes f d.tags l k) in
    record {
      head = head_is bytes h o is.read refl refl refl;
      loads = loads_read bytes h is.read;
      files_apart = apart_read bytes h is.read;
      span = refl;
      align = refl;
      some = λ library. some_span ss (dynamic_memory ss).at made.table.byte.0 (loads_read bytes h is.read) made.table.byte.1;
      tables = ranges_in (length bytes) places.windows (link_windows_in bytes h d.tags is.read is.other);
      tabled = λ other. tabled_by bytes o d made refl refl refl refl raw;
      few = few_symbols bytes f d.tags l is.names;
      formed = tables_formed places.hashes l.symbols hashed;
      counted = tables_counted bytes ss (sections bytes h) d.tags (length l.symbols);
      hashed = hashed;
      relocs = pass.relocs;
      widths = wide;
      held = pass.held;
      packed_few = packed_most l.symbols (loaded bytes ss (rela_memory d.tags)) (loaded bytes ss (jmprel_memory d.tags)) bytes ss (packed_places bytes ss d.tags);
      packed_held = pass.packed_held;
      apart = pass.apart;
      clear = rw windows pass.clear;
      plain = pass.plain;
      copies = rest_passes bytes h f.segments d.tags l.symbols places.relocations tt r.2;
    }

pub accepted : (bytes : List ℕ) (o : Object) → reads bytes ≡ Ok o → Accepted bytes o
accepted bytes o e = read_holds (Accepted bytes) bytes (accepted_static bytes) (accepted_dynamic bytes) o e

-- an answer that is the definition's
pub accepted_answer : (bytes : List ℕ) (r : Result Object Refusal) → Answers is_memory r (reads bytes) → IfOk r (λ o. Accepted bytes o)
accepted_answer bytes (Ok o) e = accepted bytes o e
accepted_answer bytes (Err e) h = tt
