-- What acceptance says of an object's tables, by the tags of its dynamic table.
use Rattle.std.proofs.Common.{◌≡◌, ℕ, ◌+◌, ◌-◌, ◌*◌, ◌/◌, ◌%◌, ◌<◌, Bool, true, false, List, [], ◌∷◌, length, map, take, drop, Option, Some, None, Result, Ok, Err, refl, sym, ap, ◌∙◌, arith, inl, inr}
use Rattle.std.specs.Prelude.{◌||◌, ◌&&◌, ◌==◌, not, nat_lt, is_some, find, if◌then◌else◌, is_ok}
use Rattle.std.specs.List.{list_any}
use Rattle.std.proofs.lemmas.Bool.{cases_Bool, and_parts, or_parts, eqb-true, ltb-true, leb-true, true≢false, not-false}
use Rattle.pl_base.specs.Windows.{Window, end_of, any_share}
use Rattle.pl_base.specs.Answers.{unless_found}
use Rattle.pl_base.specs.Sums.{is_aligned}
use Rattle.pl_base.proofs.AnswerLaws.{refuse_none, refuse_next, refuse_ok, ok_same}
use Rattle.pl_base.proofs.FindLaws.{find_passes, find_fails}
use Rattle.pl_base.proofs.WindowLaws.{length-within}
use Rattle.pl_elf.specs.Headers.{segment_of_kind}
use Rattle.pl_elf.specs.Clauses.{segment_passes}
use Rattle.pl_elf.specs.declared.constants.TheConstants.{PT_DYNAMIC, SHT_DYNSYM, RELA_SIZE, RELR_SIZE}
use Rattle.pl_elf.specs.declared.header.Header.{Header}
use Rattle.pl_elf.specs.declared.segment.Segment.{Segment}
use Rattle.pl_elf.specs.declared.section.Section.{Section}
use Rattle.pl_dyn.specs.Entries.{tags, entries, is_ended, null_count, only_nulls_follow}
use Rattle.pl_dyn.specs.Read as dyn
use Rattle.pl_dyn.specs.declared.constants.TheConstants.{ENTRY_SIZE, DT_SYMTAB, DT_STRTAB, DT_STRSZ, DT_SYMENT, DT_RELASZ, DT_PLTRELSZ}
use Rattle.pl_dyn.specs.declared.tags.Tag.{Tag}
use Rattle.pl_dyn.specs.declared.dynamic.Dynamic.{Dynamic}
use Rattle.pl_dyn.specs.declared.fault.DynFault.{DynFault}
use Rattle.pl_dyn.specs.declared.fault.DynFault.TheVariants as dyn_fault
use Rattle.pl_dyn.proofs.EntryLaws.{whole}
use Rattle.pl_sym.specs.declared.constants.TheConstants.{SYMBOL_SIZE}
use Rattle.pl_relr.specs.Entries.{entries as packed_entries}
use Rattle.pl_relr.specs.Places.{begins_odd, places, unpacked}
use Rattle.pl_relr.specs.declared.fault.RelrFault.{RelrFault}
use Rattle.pl_relr.specs.declared.fault.RelrFault.TheVariants.{Packed}
use Rattle.pl_object.specs.FilePart.{nothing, loader, loaded_by, file_window, in_file_part, loaded}
use Rattle.pl_object.specs.Tables.{has_tag, value, memory_of, dynamic_memory, tag_memory, has_kind, section_size, symbols_memory, strings_memory, rela_memory, jmprel_memory, relr_memory, tables_memory, symtab_windows, main_windows, link_windows, window_range}
use Rattle.pl_object.specs.TableClauses.{lacks_tags, is_misplaced, other_dynsym, any_lost, any_table_outside, tables_overlap, bad_tables, is_uneven, bad_rela, bad_jmprel, bad_relocation_tables, meets, relr_table, bad_relr_tags, misplaced_relr, bad_relr_table, bad_packed, check_tables}
use Rattle.pl_object.specs.Named.{range_window, dynamic_of, symbols_of, strings_of, rela_of, jmprel_of, packed_of, symtabs_of}
use Rattle.pl_object.specs.Reads.{dynamic, named_places, packed_places}
use Rattle.pl_object.specs.Accepted.{AreWhole, AreNamed}
use Rattle.pl_object.specs.declared.object.Object.{Object}
use Rattle.pl_object.specs.declared.refusal.Refusal.{Refusal}
use Rattle.pl_object.specs.declared.refusal.Refusal.TheVariants.{Clause}
use Rattle.pl_object.proofs.ExtentLaws.{file_window_in}

-- ---- bytes that are loaded

pub length-loaded : (bytes : List ℕ) (ss : List Segment) (m : Window) → list_any (segment_passes bytes false) ss ≡ false → in_file_part ss m ≡ true → length (loaded bytes ss m) ≡ m.size
unfolding loaded in_file_part
length-loaded bytes ss m files here = length-within (file_window ss m) bytes (leb-true (end_of (file_window ss m)) (length bytes) (file_window_in bytes ss m files)) ∙ eqb-true (file_window ss m).size m.size here

-- ---- clauses 9 to 11

unfound : {A X E : Type 0} (found : Option A) (fault : A → E) (next : Result X E) (x : X) → unless_found found fault next ≡ Ok x → (found ≡ None) × (next ≡ Ok x)
unfound (Some a) fault next x e = absurd cc
unfound None fault next x e = (refl, e)

record IsEnded (t : List ℕ) (d : Dynamic) : Type 0 where
  ended : is_ended t ≡ true
  tags : d.tags ≡ tags t
  spare : d.spare ≡ null_count t - 1

ended : (t : List ℕ) (d : Dynamic) → dyn.read t ≡ Ok d → IsEnded t d
unfolding dyn.read
ended t d e =
    let p = refuse_ok (is_ended t) _ _ d e in
    let q = unfound (dyn.first_unknown (tags t)) _ _ d p.1 in
    let r = unfound (dyn.first_twice (tags t)) _ _ d q.1 in
    let same = ok_same _ d r.1 in
    record { ended = p.0; tags = ap (λ (x : Dynamic). x.tags) (sym same); spare = ap (λ (x : Dynamic). x.spare) (sym same) }

some_null : (t : List ℕ) → is_ended t ≡ true → 0 < null_count t
unfolding is_ended
some_null t h =
    let p = and_parts (length t % ENTRY_SIZE == 0 && nat_lt 0 (null_count t)) (only_nulls_follow t) h in
    ltb-true 0 (null_count t) (and_parts (length t % ENTRY_SIZE == 0) (nat_lt 0 (null_count t)) p.0).1

none_size : (found : Option Segment) → (loaded_by nothing found).size ≡ 0
none_size None = refl
none_size (Some s) = omega arith

none_loaded : (bytes : List ℕ) (ss : List Segment) → loaded bytes ss nothing ≡ []
unfolding loaded file_window
none_loaded bytes ss = ap (λ (n : ℕ). take n (drop (loaded_by nothing (loader ss 0)).at bytes)) (none_size (loader ss 0))

not_ended : is_ended [] ≡ false
unfolding is_ended null_count entries
not_ended = refl

nothing_read : (bytes : List ℕ) (found : Option Segment) (ss : List Segment) → is_ended (loaded bytes ss (memory_of found)) ≡ true → is_some found ≡ true
nothing_read bytes (Some s) ss h = refl
nothing_read bytes None ss h = absurd (true≢false (sym h ∙ ap is_ended (none_loaded bytes ss) ∙ not_ended))

-- a byte of the dynamic table is loaded
loader_read : (bytes : List ℕ) (ss : List Segment) (m : Window) (found : Option Segment) → loader ss m.at ≡ found → is_ended (loaded bytes ss m) ≡ true → (s : Segment) × (loader ss m.at ≡ Some s)
unfolding loaded file_window
loader_read bytes ss m (Some s) is h = (s, is)
loader_read bytes ss m None is h = absurd (true≢false (sym (rw is at h) ∙ not_ended))

-- the dynamic table is there, and is its tags and the entries that end it
pub record IsTable (bytes : List ℕ) (ss : List Segment) (d : Dynamic) : Type 0 where
  pub there : is_some (segment_of_kind PT_DYNAMIC ss) ≡ true
  pub inside : in_file_part ss (dynamic_memory ss) ≡ true
  pub byte : (s : Segment) × (loader ss (dynamic_memory ss).at ≡ Some s)
  pub tags : d.tags ≡ tags (loaded bytes ss (dynamic_memory ss))
  pub whole : ENTRY_SIZE * (length d.tags + d.spare + 1) ≡ length (loaded bytes ss (dynamic_memory ss))

table_by : (bytes : List ℕ) (ss : List Segment) (d : Dynamic) → in_file_part ss (dynamic_memory ss) ≡ true → IsEnded (loaded bytes ss (dynamic_memory ss)) d → IsTable bytes ss d
unfolding dynamic_memory
table_by bytes ss d hit p =
    let t = loaded bytes ss (dynamic_memory ss) in
    let all = whole t p.ended in
    record {
      there = nothing_read bytes (segment_of_kind PT_DYNAMIC ss) ss p.ended;
      inside = hit;
      byte = loader_read bytes ss (dynamic_memory ss) (loader ss (dynamic_memory ss).at) refl p.ended;
      tags = p.tags;
      whole = omega (arith, all, ap (λ (ts : List Tag). length ts) p.tags, p.spare, some_null t p.ended);
    }

pub table_is : (bytes : List ℕ) (ss : List Segment) (d : Dynamic) → dynamic bytes ss ≡ Ok d → IsTable bytes ss d
unfolding dynamic
table_is bytes ss d e = elim (cases_Bool (in_file_part ss (dynamic_memory ss))) [
  | inl hit ↦ table_by bytes ss d hit (ended (loaded bytes ss (dynamic_memory ss)) d (rw hit at e))
  | inr miss ↦ absurd (let bad : ◌≡◌ {A = Result Dynamic DynFault} (Err dyn_fault.NoEnd) (Ok d) = rw miss at e in cc)
]

-- ---- clauses 12 to 14

pub record ArePassed (bytes : List ℕ) (h : Header) (ss : List Segment) (secs : List Section) (ts : List Tag) : Type 0 where
  pub lacks : lacks_tags ts ≡ false
  pub dynsym : other_dynsym ts secs ≡ false
  pub inside : list_any (λ w. not (in_file_part ss w)) (tables_memory ts secs) ≡ false
  pub overlap : any_share (main_windows h ss secs ts) ≡ false
  pub rows : bad_relocation_tables ts ≡ false
  pub packed : bad_packed bytes h ss secs ts ≡ false

pub tables_pass : (bytes : List ℕ) (h : Header) (ss : List Segment) (secs : List Section) (ts : List Tag) (u : Unit {0}) → check_tables bytes h ss secs ts ≡ Ok u → ArePassed bytes h ss secs ts
unfolding check_tables bad_tables any_table_outside tables_overlap
tables_pass bytes h ss secs ts u e =
    let none = refuse_none ((bad_tables h ss secs ts, Clause 12 0) ∷ (bad_relocation_tables ts, Clause 13 0) ∷ (bad_packed bytes h ss secs ts, Clause 14 0) ∷ []) (Ok tt) (ap (λ (r : Result (Unit {0}) Refusal). is_ok r) e) in
    let p = or_parts (bad_tables h ss secs ts) (bad_relocation_tables ts || (bad_packed bytes h ss secs ts || false)) none in
    let q = or_parts (bad_relocation_tables ts) (bad_packed bytes h ss secs ts || false) p.1 in
    let r = or_parts (bad_packed bytes h ss secs ts) false q.1 in
    let a = or_parts (lacks_tags ts || other_dynsym ts secs || any_table_outside ss secs ts) (tables_overlap h ss secs ts) p.0 in
    let b = or_parts (lacks_tags ts || other_dynsym ts secs) (any_table_outside ss secs ts) a.0 in
    let c = or_parts (lacks_tags ts) (other_dynsym ts secs) b.0 in
    let o = or_parts (any_lost ts secs) (list_any (λ w. not (in_file_part ss w)) (tables_memory ts secs)) b.1 in
    record { lacks = c.0; dynsym = c.1; inside = o.1; overlap = a.1; rows = q.0; packed = r.0 }

-- ---- the packed table

pub record IsPacked (bytes : List ℕ) (h : Header) (ss : List Segment) (secs : List Section) (ts : List Tag) : Type 0 where
  pub inside : in_file_part ss (relr_memory ts) ≡ true
  pub apart : meets (main_windows h ss secs ts) (file_window ss (relr_memory ts)) ≡ false
  pub aligned : length (relr_table bytes ss ts) % RELR_SIZE ≡ 0
  pub places : packed_places bytes ss ts ≡ places (relr_table bytes ss ts)

record IsUnpacked (t : List ℕ) (most : ℕ) : Type 0 where
  aligned : length t % RELR_SIZE ≡ 0
  is : unpacked t most ≡ Ok (places t)

unpacked_is : (t : List ℕ) (most : ℕ) → is_ok (unpacked t most) ≡ true → IsUnpacked t most
unfolding unpacked
unpacked_is t most ok =
    let rows : List (Bool × RelrFault) = (not (is_aligned (length t) RELR_SIZE), Packed) ∷ (begins_odd (packed_entries t), Packed) ∷ (nat_lt most (length (places t)), Packed) ∷ [] in
    let none = refuse_none rows (Ok (places t)) ok in
    let p = or_parts (not (is_aligned (length t) RELR_SIZE)) _ none in
    record { aligned = eqb-true (length t % RELR_SIZE) 0 (not-false _ p.0); is = refuse_next rows (Ok (places t)) none }

pub packed_is : (bytes : List ℕ) (h : Header) (ss : List Segment) (secs : List Section) (ts : List Tag) → bad_packed bytes h ss secs ts ≡ false → IsPacked bytes h ss secs ts
unfolding bad_packed misplaced_relr bad_relr_table packed_places
packed_is bytes h ss secs ts e =
    let p = or_parts (bad_relr_tags ts || misplaced_relr h ss secs ts) (bad_relr_table bytes ss ts) e in
    let q = or_parts (bad_relr_tags ts) (misplaced_relr h ss secs ts) p.0 in
    let r = or_parts (not (in_file_part ss (relr_memory ts))) (meets (main_windows h ss secs ts) (file_window ss (relr_memory ts))) q.1 in
    let u = unpacked_is (relr_table bytes ss ts) (length bytes / RELR_SIZE) (not-false _ p.1) in
    record { inside = not-false _ r.0; apart = r.1; aligned = u.aligned; places = ap named_places u.is }

-- ---- whole rows

-- of the first DYNSYM section
section_rows : (address : ℕ) (secs : List Section) (found : Option Section) → find (has_kind SHT_DYNSYM) secs ≡ found → list_any (is_misplaced address) secs ≡ false → section_size found % SYMBOL_SIZE ≡ 0
unfolding is_misplaced
section_rows address secs None e none = refl
section_rows address secs (Some s) e none =
    let kind = find_passes (has_kind SHT_DYNSYM) secs s e in
    let fits = find_fails (has_kind SHT_DYNSYM) (is_misplaced address) secs s e none in
    let two : (not (s.addr == address) || not (s.size % SYMBOL_SIZE == 0)) ≡ false = rw kind at fits in
    eqb-true (s.size % SYMBOL_SIZE) 0 (not-false _ (or_parts (not (s.addr == address)) (not (s.size % SYMBOL_SIZE == 0)) two).1)

pub symbol_rows : (ts : List Tag) (secs : List Section) → other_dynsym ts secs ≡ false → (symbols_memory ts secs).size % SYMBOL_SIZE ≡ 0
unfolding other_dynsym symbols_memory
symbol_rows ts secs e = section_rows (value DT_SYMTAB ts) secs (find (has_kind SHT_DYNSYM) secs) refl (or_parts _ (list_any (is_misplaced (value DT_SYMTAB ts)) secs) e).1

either_rows : (b : Bool) (w : Window) → w.size % RELA_SIZE ≡ 0 → (if b then w else nothing).size % RELA_SIZE ≡ 0
either_rows true w h = h
either_rows false w h = refl

record HaveRows (ts : List Tag) : Type 0 where
  rela : (rela_memory ts).size % RELA_SIZE ≡ 0
  jmprel : (jmprel_memory ts).size % RELA_SIZE ≡ 0

table_rows : (ts : List Tag) → bad_relocation_tables ts ≡ false → HaveRows ts
unfolding bad_relocation_tables bad_rela bad_jmprel tag_memory
table_rows ts e =
    let p = or_parts (bad_rela ts) (bad_jmprel ts) e in
    let rela = (or_parts _ (is_uneven DT_RELASZ ts) p.0).1 in
    let jmprel = (or_parts _ (is_uneven DT_PLTRELSZ ts) p.1).1 in
    record {
      rela = either_rows _ _ (eqb-true (value DT_RELASZ ts % RELA_SIZE) 0 (not-false _ rela));
      jmprel = either_rows _ _ (eqb-true (value DT_PLTRELSZ ts % RELA_SIZE) 0 (not-false _ jmprel));
    }

record AreThere (ts : List Tag) : Type 0 where
  strings : has_tag DT_STRTAB ts ≡ true
  size : has_tag DT_STRSZ ts ≡ true
  symbols : has_tag DT_SYMTAB ts ≡ true

are_there : (ts : List Tag) → lacks_tags ts ≡ false → AreThere ts
unfolding lacks_tags
are_there ts e =
    let a = or_parts (not (has_tag DT_STRTAB ts) || not (has_tag DT_STRSZ ts) || not (has_tag DT_SYMTAB ts) || not (has_tag DT_SYMENT ts)) _ e in
    let b = or_parts (not (has_tag DT_STRTAB ts) || not (has_tag DT_STRSZ ts) || not (has_tag DT_SYMTAB ts)) (not (has_tag DT_SYMENT ts)) a.0 in
    let c = or_parts (not (has_tag DT_STRTAB ts) || not (has_tag DT_STRSZ ts)) (not (has_tag DT_SYMTAB ts)) b.0 in
    let d = or_parts (not (has_tag DT_STRTAB ts)) (not (has_tag DT_STRSZ ts)) c.0 in
    record { strings = not-false _ d.0; size = not-false _ d.1; symbols = not-false _ c.1 }

-- the symbols are in the file part
pub symbols_inside : (ss : List Segment) (secs : List Section) (ts : List Tag) → list_any (λ w. not (in_file_part ss w)) (tables_memory ts secs) ≡ false → in_file_part ss (symbols_memory ts secs) ≡ true
unfolding tables_memory
symbols_inside ss secs ts e = not-false _ (or_parts (not (in_file_part ss (symbols_memory ts secs))) _ e).0

-- what whole tables are of
pub record IsMade (o : Object) (bytes : List ℕ) (d : Dynamic) : Type 0 where
  pub files : list_any (segment_passes bytes false) o.segments ≡ false
  pub table : IsTable bytes o.segments d
  pub passed : ArePassed bytes o.header o.segments o.sections d.tags
  pub symbols : length o.symbols ≡ length (loaded bytes o.segments (symbols_memory d.tags o.sections)) / SYMBOL_SIZE
  pub shape : o.tables ≡ map window_range (link_windows o.header o.segments o.sections d.tags)

pub whole_is : (o : Object) (bytes : List ℕ) (d : Dynamic) → IsMade o bytes d → AreWhole o d.tags
whole_is o bytes d is =
    let ss = o.segments in
    let secs = o.sections in
    let ts = d.tags in
    let there = are_there ts is.passed.lacks in
    let packed = packed_is bytes o.header ss secs ts is.passed.packed in
    let rows = table_rows ts is.passed.rows in
    let size = length-loaded bytes ss (dynamic_memory ss) is.files is.table.inside in
    let relr = length-loaded bytes ss (relr_memory ts) is.files packed.inside in
    let symbols = length-loaded bytes ss (symbols_memory ts secs) is.files (symbols_inside ss secs ts is.passed.inside) in
    record {
      dynamic = is.table.there;
      dynamic_in = is.table.inside;
      dynamic_rows = omega (arith, is.table.whole, size);
      symbols = there.symbols;
      strings = there.strings;
      strings_size = there.size;
      tables_in = is.passed.inside;
      packed_in = packed.inside;
      symbol_rows = omega (arith, symbols, is.symbols, symbol_rows ts secs is.passed.dynsym);
      rela_rows = rows.rela;
      jmprel_rows = rows.jmprel;
      packed_rows = ap (λ (n : ℕ). n % RELR_SIZE) (sym relr) ∙ packed.aligned;
    }

-- ---- the link tables by their names

-- a window's range is the window again
pub window_back : (w : Window) → range_window (window_range w) ≡ w
window_back w =
    let same : w.at + w.size - w.at ≡ w.size = omega arith in
    ap (λ (n : ℕ). record { at = w.at; size = n }) same

pub windows_back : (ws : List Window) → map range_window (map window_range ws) ≡ ws
windows_back [] = refl
windows_back (w ∷ ws) = rw (window_back w, windows_back ws) refl

named_by : (o : Object) (ts : List Tag) → o.tables ≡ map window_range (link_windows o.header o.segments o.sections ts) → AreNamed o ts
unfolding link_windows tables_memory dynamic_of symbols_of strings_of rela_of jmprel_of packed_of symtabs_of
named_by o ts is = record {
  dynamic = rw is (window_back (file_window o.segments (dynamic_memory o.segments)));
  symbols = rw is (window_back (file_window o.segments (symbols_memory ts o.sections)));
  strings = rw is (window_back (file_window o.segments (strings_memory ts)));
  rela = rw is (window_back (file_window o.segments (rela_memory ts)));
  jmprel = rw is (window_back (file_window o.segments (jmprel_memory ts)));
  packed = rw is (window_back (file_window o.segments (relr_memory ts)));
  symtabs = rw is (windows_back (symtab_windows o.sections));
}

pub named_is : (o : Object) (bytes : List ℕ) (d : Dynamic) → IsMade o bytes d → AreNamed o d.tags
named_is o bytes d is = named_by o d.tags is.shape
