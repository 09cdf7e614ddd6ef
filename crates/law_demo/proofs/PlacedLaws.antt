-- Of a plain recipe's file, the tags and sections say where its tables are, and acceptance clauses 12 to 14 take them.
use Rattle.std.proofs.Common.{◌≡◌, ℕ, ◌+◌, ◌*◌, ◌/◌, ◌%◌, ◌<◌, ◌≤◌, Bool, true, false, List, [], ◌∷◌, ◌++◌, length, map, take, drop, Option, Some, None, Result, Ok, refl, sym, ap, subst, ◌∙◌, arith, inl, inr}
use Rattle.std.specs.Prelude.{◌⊎◌, not, ◌==◌, ◌&&◌, ◌||◌, nat_lt, filter, find, count_by, cond, codes, is_ok, unwrap_or, if◌then◌else◌}
use Rattle.std.specs.List.{AllByRecursion, flat_map, list_any}
use Rattle.std.proofs.lemmas.Bool.{cases_Bool, false≢true, or_from}
use Rattle.std.proofs.lemmas.Bool.Decides.{nat_tests}
use Rattle.std.proofs.lemmas.List.Sums.{sum_by-cons}
use Rattle.pl_base.specs.Answers.{unless}
use Rattle.pl_base.specs.Windows.{Window, share, any_share}
use Rattle.pl_base.proofs.FindLaws.{any_found}
use Rattle.pl_base.proofs.SumLaws.{round_up-at_least}
use Rattle.pl_elf.specs.declared.header.Header.{Header}
use Rattle.pl_elf.specs.declared.section.Section.{Section}
use Rattle.pl_elf.specs.declared.segment.Segment.{Segment}
use Rattle.pl_dyn.specs.Read.{value_of}
use Rattle.pl_dyn.specs.declared.tags.Tag.{Tag}
use Rattle.pl_relr.specs.Entries.{entries}
use Rattle.pl_relr.specs.declared.fault.RelrFault.{RelrFault}
use Rattle.pl_relr.specs.declared.fault.RelrFault.TheVariants.{Packed}
use Rattle.pl_relr.specs.Places as packed
use Rattle.pl_object.specs.FilePart.{nothing, loader, loaded_by, file_window, in_file_part, loaded}
use Rattle.pl_object.specs.TableClauses.{lacks_tags, is_misplaced, other_dynsym, any_lost, any_table_outside, tables_overlap, bad_tables, bad_rela, bad_jmprel, bad_relocation_tables, bad_relr_tags, meets, misplaced_relr, bad_relr_table, bad_packed, check_tables}
use Rattle.pl_object.specs.Tables.{value, dynamic_memory, tag_memory, strings_memory, rela_memory, jmprel_memory, relr_memory, has_kind, section_size, symbols_memory, begins_at, section_memory, is_lost, tables_memory, header_window, segments_window, sections_window, symtab_windows, main_windows}
use Rattle.pl_build.specs.declared.layout.Tables.{Tables}
use Rattle.pl_build.specs.declared.layout_plan.LayoutPlan.{LayoutPlan}
use Rattle.pl_build.specs.declared.recipe.Recipe.{Recipe}
use Rattle.pl_build.specs.declared.recipe.Settings.{Settings}
use Rattle.pl_build.specs.declared.relocations.Rela.{Rela}
use Rattle.pl_build.specs.declared.roles.PlacedSection.{PlacedSection}
use Rattle.pl_build.specs.declared.roles.Role.{Role}
use Rattle.pl_build.specs.declared.roles.Role.TheVariants.{Null, Interp, Hash, GnuHash, Dynsym, Dynstr, Versym, Verdef, Verneed, RelaDyn, RelaPlt, RelrDyn, Dynamic, Data, Bss, Shstrtab}
use Rattle.pl_build.specs.declared.string_table.StringTable.{StringTable}
use Rattle.pl_build.specs.declared.symbol_table.SymbolEntry.{SymbolEntry}
use Rattle.pl_build.specs.Choices.{chosen}
use Rattle.pl_build.specs.Dynamic.{null_place, place_of, is_there}
use Rattle.pl_build.specs.Fields.{fields}
use Rattle.pl_build.specs.File.{places_of}
use Rattle.pl_build.specs.Layout.{contents, end_of, tables}
use Rattle.pl_build.specs.LayoutPlan.{plan_of, is_jump_slot, is_other}
use Rattle.pl_build.specs.Relocations.{rela_bytes, rela_of, others, jump_slots}
use Rattle.pl_build.specs.Roles.{section_name, kind_of, flags_of}
use Rattle.pl_build.specs.Sections.{row_of, last_places, section_rows}
use Rattle.pl_build.specs.Segments.{readable, first_load, second_load, dynamic_segment, has_data, data_offset}
use Rattle.pl_build.specs.SymbolTable.{entry_bytes, entry_of, null_entry, symbol_table}
use Rattle.law_demo.specs.Loaded.{memory_of}
use Rattle.law_demo.specs.Plain.{IsPlain}
use Rattle.law_demo.specs.Planned.{header_of, section_of, planned_header, planned_segments, planned_sections}
use Rattle.law_demo.specs.Shape.{Extent, Extents, place_in, rows_before, before_dynamic, memory_at, memory_if, TellsPlaces, TablesAreTaken}
use Rattle.law_demo.specs.Tags.{planned_tags}
use Rattle.law_demo.proofs.BackLaws.{rows_long}
use Rattle.law_demo.proofs.ClauseLaws.{not_above, shown}
use Rattle.law_demo.proofs.FileLaws.{names_of, few}
use Rattle.law_demo.proofs.HeadLaws.{all_append, sixteen, plain_settings, places_roles, plain_first}
use Rattle.law_demo.proofs.HeadedLaws.{segments_shown, there_is, parts_before}
use Rattle.law_demo.proofs.RoleLaws.{all_chosen, plain_roles, roles_plain, role_of}
use Rattle.law_demo.proofs.ShapeLaws.{rows_of, dynamic_last, IsGood, IsPlaced, placed}
use Rattle.law_demo.proofs.ValueLaws.{planned_value, place_chosen}

-- ---- tests

below_true : (a b : ℕ) → a < b → nat_lt a b ≡ true
below_true a b lt = grind (arith, nat_tests)

equal : (a b : ℕ) → a ≡ b → (a == b) ≡ true
equal a b e = grind (arith, nat_tests)

same_from : (a b : ℕ) → (a == b) ≡ true → a ≡ b
same_from a b h = grind (arith, nat_tests)

unequal : (a b : ℕ) → a < b → (a == b) ≡ false
unequal a b lt = grind (arith, nat_tests)

second_false : (a b : Bool) → b ≡ false → (a && b) ≡ false
second_false true b h = h
second_false false b h = refl

third_false : (a b c d : Bool) → c ≡ false → (a && b && c && d) ≡ false
third_false true true c d h = rw h refl
third_false true false c d h = refl
third_false false b c d h = refl

-- ---- how long rows are

entry_long : (e : SymbolEntry) → length (entry_bytes e) ≡ 24
unfolding entry_bytes fields
entry_long e = refl

rela_long : (r : Rela) → length (rela_bytes r) ≡ 24
unfolding rela_bytes fields
rela_long r = refl

pub entries_long : (es : List SymbolEntry) → length (flat_map entry_bytes es) ≡ 24 * length es
entries_long es = rows_long 24 entry_bytes entry_long es

pub relas_long : (rs : List Rela) → length (flat_map rela_bytes rs) ≡ 24 * length rs
relas_long rs = rows_long 24 rela_bytes rela_long rs

even_symbols : (p : LayoutPlan) → length (symbol_table p) % 24 ≡ 0
unfolding symbol_table
even_symbols p = omega (arith, entries_long (null_entry ∷ map (entry_of p) p.symbols))

even_others : (p : LayoutPlan) → length (others p) % 24 ≡ 0
unfolding others
even_others p = omega (arith, relas_long (map (rela_of p) (filter is_other p.relocations)))

even_slots : (p : LayoutPlan) → length (jump_slots p) % 24 ≡ 0
unfolding jump_slots
even_slots p = omega (arith, relas_long (map (rela_of p) (filter is_jump_slot p.relocations)))

symbols_even : (p : LayoutPlan) (ss : List Segment) (tables_end : ℕ) (e : Extent) → IsGood p ss tables_end (place_in Dynsym e) → e.size % 24 ≡ 0
unfolding contents
symbols_even p ss tables_end e good = ap (λ (n : ℕ). n % 24) good.long ∙ even_symbols p

others_even : (p : LayoutPlan) (ss : List Segment) (tables_end : ℕ) (e : Extent) → IsGood p ss tables_end (place_in RelaDyn e) → e.size % 24 ≡ 0
unfolding contents
others_even p ss tables_end e good = ap (λ (n : ℕ). n % 24) good.long ∙ even_others p

slots_even : (p : LayoutPlan) (ss : List Segment) (tables_end : ℕ) (e : Extent) → IsGood p ss tables_end (place_in RelaPlt e) → e.size % 24 ≡ 0
unfolding contents
slots_even p ss tables_end e good = ap (λ (n : ℕ). n % 24) good.long ∙ even_slots p

-- ---- places by name

abbrev place_if : Bool → PlacedSection → PlacedSection
place_if there x = if there then x else null_place

named_hash : (r : Recipe) (e : Extents) → place_of (before_dynamic r e) (codes ".hash") ≡ place_if r.settings.hashes.sysv (place_in Hash e.hash)
unfolding section_name
named_hash r e = place_chosen (codes ".hash") (rows_before r e)

named_gnu : (r : Recipe) (e : Extents) → place_of (before_dynamic r e) (codes ".gnu.hash") ≡ place_if r.settings.hashes.gnu (place_in GnuHash e.gnu_hash)
unfolding section_name
named_gnu r e = place_chosen (codes ".gnu.hash") (rows_before r e)

named_symbols : (r : Recipe) (e : Extents) → place_of (before_dynamic r e) (codes ".dynsym") ≡ place_in Dynsym e.symbols
unfolding section_name
named_symbols r e = place_chosen (codes ".dynsym") (rows_before r e)

named_strings : (r : Recipe) (e : Extents) → place_of (before_dynamic r e) (codes ".dynstr") ≡ place_in Dynstr e.strings
unfolding section_name
named_strings r e = place_chosen (codes ".dynstr") (rows_before r e)

named_others : (r : Recipe) (e : Extents) → place_of (before_dynamic r e) (codes ".rela.dyn") ≡ place_if (list_any is_other r.relocations) (place_in RelaDyn e.others)
unfolding section_name
named_others r e = place_chosen (codes ".rela.dyn") (rows_before r e)

named_slots : (r : Recipe) (e : Extents) → place_of (before_dynamic r e) (codes ".rela.plt") ≡ place_if (list_any is_jump_slot r.relocations) (place_in RelaPlt e.slots)
unfolding section_name
named_slots r e = place_chosen (codes ".rela.plt") (rows_before r e)

pub no_packed : (r : Recipe) (e : Extents) → place_of (before_dynamic r e) (codes ".relr.dyn") ≡ null_place
unfolding section_name
no_packed r e = place_chosen (codes ".relr.dyn") (rows_before r e)

pub no_words : (r : Recipe) (e : Extents) → place_of (before_dynamic r e) (codes ".gnu.version") ≡ null_place
unfolding section_name
no_words r e = place_chosen (codes ".gnu.version") (rows_before r e)

pub no_defined : (r : Recipe) (e : Extents) → place_of (before_dynamic r e) (codes ".gnu.version_d") ≡ null_place
unfolding section_name
no_defined r e = place_chosen (codes ".gnu.version_d") (rows_before r e)

pub no_needed : (r : Recipe) (e : Extents) → place_of (before_dynamic r e) (codes ".gnu.version_r") ≡ null_place
unfolding section_name
no_needed r e = place_chosen (codes ".gnu.version_r") (rows_before r e)

pub named_dynamic : (r : Recipe) (e : Extents) → place_of (chosen (rows_of r e)) (codes ".dynamic") ≡ place_in Dynamic e.dynamic
unfolding section_name
named_dynamic r e = place_chosen (codes ".dynamic") (rows_of r e)

-- ---- values of tags

abbrev pub some_if : Bool → ℕ → Option ℕ
some_if there n = if there then Some n else None

-- what a tag says of a table that may be there
tells_if : (f : PlacedSection → ℕ) (b : Bool) (y : PlacedSection) → (b ≡ true → 0 < y.size) → (if is_there (place_if b y) then Some (f (place_if b y)) else None) ≡ some_if b (f y)
tells_if f true y some = rw (there_is y (some refl)) refl
tells_if f false y some = refl

tells : (f : PlacedSection → ℕ) (x : PlacedSection) (b : Bool) (y : PlacedSection) → x ≡ place_if b y → (b ≡ true → 0 < y.size) → (if is_there x then Some (f x) else None) ≡ some_if b (f y)
tells f x b y e some = ap (λ (z : PlacedSection). if is_there z then Some (f z) else None) e ∙ tells_if f b y some

tells_none : (f : PlacedSection → ℕ) (x : PlacedSection) → x ≡ null_place → (if is_there x then Some (f x) else None) ≡ None
tells_none f x e = ap (λ (z : PlacedSection). if is_there z then Some (f z) else None) e

abbrev pub tags_of : Recipe → Extents → List Tag
tags_of r e = planned_tags (plan_of r) (before_dynamic r e)

-- whether it is there, it has bytes
pub record HaveBytes (r : Recipe) (e : Extents) : Type 0 where
  pub hash : r.settings.hashes.sysv ≡ true → 0 < e.hash.size
  pub gnu_hash : r.settings.hashes.gnu ≡ true → 0 < e.gnu_hash.size
  pub others : list_any is_other r.relocations ≡ true → 0 < e.others.size
  pub slots : list_any is_jump_slot r.relocations ≡ true → 0 < e.slots.size

pub record AreValues (r : Recipe) (e : Extents) (tags : List Tag) : Type 0 where
  pub strtab : value_of 5 tags ≡ Some e.strings.addr
  pub strsz : value_of 10 tags ≡ Some e.strings.size
  pub symtab : value_of 6 tags ≡ Some e.symbols.addr
  pub syment : value_of 11 tags ≡ Some 24
  pub hash : value_of 4 tags ≡ some_if r.settings.hashes.sysv e.hash.addr
  pub gnu_hash : value_of 0x6ffffef5 tags ≡ some_if r.settings.hashes.gnu e.gnu_hash.addr
  pub rela : value_of 7 tags ≡ some_if (list_any is_other r.relocations) e.others.addr
  pub relasz : value_of 8 tags ≡ some_if (list_any is_other r.relocations) e.others.size
  pub relaent : value_of 9 tags ≡ some_if (list_any is_other r.relocations) 24
  pub jmprel : value_of 23 tags ≡ some_if (list_any is_jump_slot r.relocations) e.slots.addr
  pub pltrelsz : value_of 2 tags ≡ some_if (list_any is_jump_slot r.relocations) e.slots.size
  pub pltrel : value_of 20 tags ≡ some_if (list_any is_jump_slot r.relocations) 7
  pub relr : value_of 36 tags ≡ None
  pub relrsz : value_of 35 tags ≡ None
  pub relrent : value_of 37 tags ≡ None
  pub versym : value_of 0x6ffffff0 tags ≡ None
  pub verdef : value_of 0x6ffffffc tags ≡ None
  pub verneed : value_of 0x6ffffffe tags ≡ None

abbrev addr_of : PlacedSection → ℕ
addr_of x = x.addr

abbrev size_of : PlacedSection → ℕ
size_of x = x.size

values_are : (r : Recipe) (e : Extents) → HaveBytes r e → AreValues r e (tags_of r e)
values_are r e have =
    let p : LayoutPlan = plan_of r in
    let places : List PlacedSection = before_dynamic r e in
    record {
      strtab = planned_value 5 p places refl ∙ ap (λ (x : PlacedSection). Some x.addr) (named_strings r e);
      strsz = planned_value 10 p places refl ∙ ap (λ (x : PlacedSection). Some x.size) (named_strings r e);
      symtab = planned_value 6 p places refl ∙ ap (λ (x : PlacedSection). Some x.addr) (named_symbols r e);
      syment = planned_value 11 p places refl;
      hash = planned_value 4 p places refl ∙ tells addr_of (place_of places (codes ".hash")) r.settings.hashes.sysv (place_in Hash e.hash) (named_hash r e) have.hash;
      gnu_hash = planned_value 0x6ffffef5 p places refl ∙ tells addr_of (place_of places (codes ".gnu.hash")) r.settings.hashes.gnu (place_in GnuHash e.gnu_hash) (named_gnu r e) have.gnu_hash;
      rela = planned_value 7 p places refl ∙ tells addr_of (place_of places (codes ".rela.dyn")) (list_any is_other r.relocations) (place_in RelaDyn e.others) (named_others r e) have.others;
      relasz = planned_value 8 p places refl ∙ tells size_of (place_of places (codes ".rela.dyn")) (list_any is_other r.relocations) (place_in RelaDyn e.others) (named_others r e) have.others;
      relaent = planned_value 9 p places refl ∙ tells (λ x. 24) (place_of places (codes ".rela.dyn")) (list_any is_other r.relocations) (place_in RelaDyn e.others) (named_others r e) have.others;
      jmprel = planned_value 23 p places refl ∙ tells addr_of (place_of places (codes ".rela.plt")) (list_any is_jump_slot r.relocations) (place_in RelaPlt e.slots) (named_slots r e) have.slots;
      pltrelsz = planned_value 2 p places refl ∙ tells size_of (place_of places (codes ".rela.plt")) (list_any is_jump_slot r.relocations) (place_in RelaPlt e.slots) (named_slots r e) have.slots;
      pltrel = planned_value 20 p places refl ∙ tells (λ x. 7) (place_of places (codes ".rela.plt")) (list_any is_jump_slot r.relocations) (place_in RelaPlt e.slots) (named_slots r e) have.slots;
      relr = planned_value 36 p places refl ∙ tells_none addr_of (place_of places (codes ".relr.dyn")) (no_packed r e);
      relrsz = planned_value 35 p places refl ∙ tells_none size_of (place_of places (codes ".relr.dyn")) (no_packed r e);
      relrent = planned_value 37 p places refl ∙ tells_none (λ x. 8) (place_of places (codes ".relr.dyn")) (no_packed r e);
      versym = planned_value 0x6ffffff0 p places refl ∙ tells_none addr_of (place_of places (codes ".gnu.version")) (no_words r e);
      verdef = planned_value 0x6ffffffc p places refl ∙ tells_none addr_of (place_of places (codes ".gnu.version_d")) (no_defined r e);
      verneed = planned_value 0x6ffffffe p places refl ∙ tells_none addr_of (place_of places (codes ".gnu.version_r")) (no_needed r e);
    }

-- ---- the sections

abbrev pub section_in : LayoutPlan → PlacedSection → Section
section_in p place = section_of (row_of p (names_of p) place)

abbrev pub last_of : LayoutPlan → Tables → List PlacedSection
last_of p t = last_places p (data_offset (end_of t)) (length (names_of p).bytes)

abbrev pub all_places : Recipe → Extents → Tables → List PlacedSection
all_places r e t = null_place ∷ (chosen (rows_of r e) ++ last_of (plan_of r) t)

map_twice : (p : LayoutPlan) (names : StringTable) (places : List PlacedSection) → map section_of (section_rows p names places) ≡ map (λ x. section_of (row_of p names x)) places
unfolding section_rows
map_twice p names [] = refl
map_twice p names (x ∷ places) = ap (λ (l : List Section). section_of (row_of p names x) ∷ l) (map_twice p names places)

pub sections_are : (r : Recipe) (t : Tables) (e : Extents) → IsPlain r → t.places ≡ chosen (rows_of r e) → planned_sections (plan_of r) t ≡ map (section_in (plan_of r)) (all_places r e t)
unfolding planned_sections places_of
sections_are r t e plain shape =
    let p : LayoutPlan = plan_of r in
    map_twice p (names_of p) (places_of p t (data_offset (end_of t)) (length (names_of p).bytes))
    ∙ ap (λ (l : List PlacedSection). map (section_in p) (l ++ t.places ++ last_of p t)) (plain_first r plain)
    ∙ ap (λ (l : List PlacedSection). map (section_in p) ((null_place ∷ []) ++ l ++ last_of p t)) shape

-- the first section that passes a test
abbrev first_row : (PlacedSection → Bool) → List (Bool × PlacedSection) → Option PlacedSection
first_row q [] = None
first_row q (c ∷ cs) = if q c.1 && c.0 then Some c.1 else first_row q cs

row_found : (q : PlacedSection → Bool) (cs : List (Bool × PlacedSection)) → find q (chosen cs) ≡ first_row q cs
unfolding chosen
row_found q [] = refl
row_found q (c ∷ cs) = elim (cases_Bool c.0) [
  | inl there ↦ elim (cases_Bool (q c.1)) [
    | inl hit ↦ rw (there, hit) refl
    | inr miss ↦ rw (there, miss) (row_found q cs)
  ]
  | inr missing ↦ elim (cases_Bool (q c.1)) [
    | inl hit ↦ rw (missing, hit) (row_found q cs)
    | inr miss ↦ rw (missing, miss) (row_found q cs)
  ]
]

found_front : (q : PlacedSection → Bool) (xs ys : List PlacedSection) (x : PlacedSection) → find q xs ≡ Some x → find q (xs ++ ys) ≡ Some x
found_front q [] ys x e = let no : ◌≡◌ {A = Option PlacedSection} None (Some x) = e in absurd cc
found_front q (y ∷ xs) ys x e = elim (cases_Bool (q y)) [
  | inl hit ↦ rw hit (rw hit at e)
  | inr miss ↦ rw miss (found_front q xs ys x (rw miss at e))
]

found_section : (f : PlacedSection → Section) (q : Section → Bool) (places : List PlacedSection) (x : PlacedSection) → find (λ y. q (f y)) places ≡ Some x → find q (map f places) ≡ Some (f x)
found_section f q [] x e = let no : ◌≡◌ {A = Option PlacedSection} None (Some x) = e in absurd cc
found_section f q (y ∷ places) x e = elim (cases_Bool (q (f y))) [
  | inl hit ↦
      let same : ◌≡◌ {A = Option PlacedSection} (Some y) (Some x) = rw hit at e in
      let here : y ≡ x = cc in
      rw hit (ap (λ (z : PlacedSection). Some (f z)) here)
  | inr miss ↦ rw miss (found_section f q places x (rw miss at e))
]

-- a section among all of a recipe's
section_found : (r : Recipe) (t : Tables) (e : Extents) (q : Section → Bool) (x : PlacedSection) → IsPlain r → t.places ≡ chosen (rows_of r e) → q (section_in (plan_of r) null_place) ≡ false → first_row (λ y. q (section_in (plan_of r) y)) (rows_of r e) ≡ Some x
    → find q (planned_sections (plan_of r) t) ≡ Some (section_in (plan_of r) x)
section_found r t e q x plain shape null_misses found =
    let p : LayoutPlan = plan_of r in
    let test : PlacedSection → Bool = λ y. q (section_in p y) in
    let front : find test (chosen (rows_of r e) ++ last_of p t) ≡ Some x = found_front test (chosen (rows_of r e)) (last_of p t) x (row_found test (rows_of r e) ∙ found) in
    let all : find test (all_places r e t) ≡ Some x = rw null_misses front in
    ap (find q) (sections_are r t e plain shape) ∙ found_section (section_in p) q (all_places r e t) x all

-- ---- the section of the symbols

symbols_section : (r : Recipe) (t : Tables) (e : Extents) → IsPlain r → t.places ≡ chosen (rows_of r e) → find (has_kind 11) (planned_sections (plan_of r) t) ≡ Some (section_in (plan_of r) (place_in Dynsym e.symbols))
unfolding section_of row_of kind_of
symbols_section r t e plain shape = section_found r t e (has_kind 11) (place_in Dynsym e.symbols) plain shape refl refl

symbols_size : (p : LayoutPlan) (e : Extent) → (section_in p (place_in Dynsym e)).size ≡ e.size
unfolding section_of row_of
symbols_size p e = refl

kinds_counted : (p : LayoutPlan) (places : List PlacedSection) → count_by (has_kind 11) (map (section_in p) places) ≡ count_by (λ role. kind_of role == 11) (map role_of places)
unfolding section_of row_of
kinds_counted p [] = refl
kinds_counted p (x ∷ places) =
    sum_by-cons (λ s. cond (has_kind 11 s) 1 0) (section_in p x) (map (section_in p) places)
    ∙ ap (λ (n : ℕ). cond (kind_of x.role == 11) 1 0 + n) (kinds_counted p places)
    ∙ sym (sum_by-cons (λ role. cond (kind_of role == 11) 1 0) x.role (map role_of places))

one_shapes : (a b c d : Bool) → (count_by (λ role. kind_of role == 11) (plain_roles a b c d) == 1) ≡ true
unfolding chosen kind_of
one_shapes = sixteen (λ a b c d. count_by (λ role. kind_of role == 11) (plain_roles a b c d) == 1) refl

one_dynsym : (r : Recipe) (t : Tables) → IsPlain r → tables (plan_of r) ≡ Ok t → (count_by (has_kind 11) (planned_sections (plan_of r) t) == 1) ≡ true
unfolding planned_sections
one_dynsym r t plain e =
    let p : LayoutPlan = plan_of r in
    let places : List PlacedSection = places_of p t (data_offset (end_of t)) (length (names_of p).bytes) in
    ap (λ (l : List Section). count_by (has_kind 11) l == 1) (map_twice p (names_of p) places)
    ∙ ap (λ (n : ℕ). n == 1) (kinds_counted p places)
    ∙ ap (λ (l : List Role). count_by (λ role. kind_of role == 11) l == 1) (places_roles r t (data_offset (end_of t)) (length (names_of p).bytes) plain e ∙ roles_plain r plain)
    ∙ one_shapes r.settings.hashes.sysv r.settings.hashes.gnu (list_any is_other r.relocations) (list_any is_jump_slot r.relocations)

-- a section of symbols lies there, in whole rows
abbrev IsRight : ℕ → PlacedSection → Type 0
IsRight address place = ((kind_of place.role == 11) ≡ false) ⊎ ((place.addr ≡ address) × (place.size % 24 ≡ 0))

right_one : (p : LayoutPlan) (address : ℕ) (place : PlacedSection) → IsRight address place → is_misplaced address (section_in p place) ≡ false
unfolding is_misplaced section_of row_of
right_one p address place (inl other) = rw other refl
right_one p address place (inr right) =
    second_false (kind_of place.role == 11) (not (place.addr == address) || not (place.size % 24 == 0)) (rw (equal place.addr address right.0, equal (place.size % 24) 0 right.1) refl)

right_all : (p : LayoutPlan) (address : ℕ) (places : List PlacedSection) → AllByRecursion (IsRight address) places → list_any (is_misplaced address) (map (section_in p) places) ≡ false
right_all p address [] all = refl
right_all p address (x ∷ places) all = or_from (is_misplaced address (section_in p x)) (list_any (is_misplaced address) (map (section_in p) places)) (right_one p address x all.0) (right_all p address places all.1)

right_places : (r : Recipe) (t : Tables) (e : Extents) → e.symbols.size % 24 ≡ 0 → AllByRecursion (IsRight e.symbols.addr) (all_places r e t)
unfolding kind_of last_places
right_places r t e even =
    let right : PlacedSection → Type 0 = IsRight e.symbols.addr in (
      inl refl,
      all_append right (chosen (rows_of r e)) (last_of (plan_of r) t)
          (all_chosen right (rows_of r e) (λ _. inl refl, (λ _. inl refl, (λ _. inr (refl, even), (λ _. inl refl, (λ _. inl refl, (λ _. inl refl, (λ _. inl refl, tt))))))))
          (inl refl, (inl refl, (inl refl, tt))),
    )

no_symtab_role : (role : Role) → (kind_of role == 2) ≡ false
unfolding kind_of
no_symtab_role Null = refl
no_symtab_role Interp = refl
no_symtab_role Hash = refl
no_symtab_role GnuHash = refl
no_symtab_role Dynsym = refl
no_symtab_role Dynstr = refl
no_symtab_role Versym = refl
no_symtab_role Verdef = refl
no_symtab_role Verneed = refl
no_symtab_role RelaDyn = refl
no_symtab_role RelaPlt = refl
no_symtab_role RelrDyn = refl
no_symtab_role Dynamic = refl
no_symtab_role Data = refl
no_symtab_role Bss = refl
no_symtab_role Shstrtab = refl

pub no_symtabs : (p : LayoutPlan) (places : List PlacedSection) → symtab_windows (map (section_in p) places) ≡ []
unfolding symtab_windows section_of row_of
no_symtabs p [] = refl
no_symtabs p (x ∷ places) = rw (no_symtab_role x.role) (no_symtabs p places)

-- ---- sections where tags say

hash_begins : (p : LayoutPlan) (e : Extent) → 0 < e.size → begins_at e.addr (section_in p (place_in Hash e)) ≡ true
unfolding begins_at section_of row_of kind_of flags_of
hash_begins p e some = rw (below_true 0 e.size some, equal e.addr e.addr refl) refl

gnu_begins : (p : LayoutPlan) (e : Extent) → 0 < e.size → begins_at e.addr (section_in p (place_in GnuHash e)) ≡ true
unfolding begins_at section_of row_of kind_of flags_of
gnu_begins p e some = rw (below_true 0 e.size some, equal e.addr e.addr refl) refl

null_begins : (p : LayoutPlan) (address : ℕ) → begins_at address (section_in p null_place) ≡ false
unfolding begins_at section_of row_of kind_of flags_of
null_begins p address = refl

-- elsewhere
hash_elsewhere : (p : LayoutPlan) (e : Extent) (address : ℕ) → e.addr < address → begins_at address (section_in p (place_in Hash e)) ≡ false
unfolding begins_at section_of row_of kind_of flags_of
hash_elsewhere p e address lt = second_false (nat_lt 0 e.size) (e.addr == address) (unequal e.addr address lt)

hash_section : (r : Recipe) (t : Tables) (e : Extents) → IsPlain r → t.places ≡ chosen (rows_of r e) → r.settings.hashes.sysv ≡ true → 0 < e.hash.size
    → find (begins_at e.hash.addr) (planned_sections (plan_of r) t) ≡ Some (section_in (plan_of r) (place_in Hash e.hash))
hash_section r t e plain shape there some =
    let p : LayoutPlan = plan_of r in
    section_found r t e (begins_at e.hash.addr) (place_in Hash e.hash) plain shape (null_begins p e.hash.addr) (rw (hash_begins p e.hash some, there) refl)

-- the second of two rows, where it is there and the first is not found
second_row : (q : PlacedSection → Bool) (a b : Bool) (x y : PlacedSection) (cs : List (Bool × PlacedSection)) → (q x && a) ≡ false → q y ≡ true → b ≡ true → first_row q ((a, x) ∷ (b, y) ∷ cs) ≡ Some y
second_row q a b x y cs first hit there = rw (first, hit, there) refl

gnu_section : (r : Recipe) (t : Tables) (e : Extents) → IsPlain r → t.places ≡ chosen (rows_of r e) → r.settings.hashes.gnu ≡ true → 0 < e.gnu_hash.size → (r.settings.hashes.sysv ≡ true → e.hash.addr < e.gnu_hash.addr)
    → find (begins_at e.gnu_hash.addr) (planned_sections (plan_of r) t) ≡ Some (section_in (plan_of r) (place_in GnuHash e.gnu_hash))
gnu_section r t e plain shape there some before =
    let p : LayoutPlan = plan_of r in
    let test : PlacedSection → Bool = λ y. begins_at e.gnu_hash.addr (section_in p y) in
    let rest : List (Bool × PlacedSection) = (true, place_in Dynsym e.symbols) ∷ (true, place_in Dynstr e.strings) ∷ (list_any is_other r.relocations, place_in RelaDyn e.others) ∷ (list_any is_jump_slot r.relocations, place_in RelaPlt e.slots) ∷ (true, place_in Dynamic e.dynamic) ∷ [] in
    let first : (test (place_in Hash e.hash) && r.settings.hashes.sysv) ≡ false = elim (cases_Bool r.settings.hashes.sysv) [
      | inl sysv ↦ rw (hash_elsewhere p e.hash e.gnu_hash.addr (before sysv)) refl
      | inr none ↦ second_false (test (place_in Hash e.hash)) r.settings.hashes.sysv none
    ] in
    section_found r t e (begins_at e.gnu_hash.addr) (place_in GnuHash e.gnu_hash) plain shape (null_begins p e.gnu_hash.addr)
    (second_row test r.settings.hashes.sysv r.settings.hashes.gnu (place_in Hash e.hash) (place_in GnuHash e.gnu_hash) rest first (gnu_begins p e.gnu_hash some) there)

hash_size : (p : LayoutPlan) (e : Extent) → (section_in p (place_in Hash e)).size ≡ e.size
unfolding section_of row_of
hash_size p e = refl

gnu_size : (p : LayoutPlan) (e : Extent) → (section_in p (place_in GnuHash e)).size ≡ e.size
unfolding section_of row_of
gnu_size p e = refl

-- ---- what tags and sections say

window_at : ℕ → ℕ → Window
window_at at size = record { at = at; size = size }

memory_tagged : (address size : ℕ) (tags : List Tag) (b : Bool) (e : Extent) → value_of address tags ≡ some_if b e.addr → value_of size tags ≡ some_if b e.size → tag_memory address size tags ≡ memory_if b e
unfolding tag_memory
memory_tagged address size tags true e x y = rw (x, y) refl
memory_tagged address size tags false e x y = rw x refl

no_memory : (address size : ℕ) (tags : List Tag) → value_of address tags ≡ None → tag_memory address size tags ≡ nothing
unfolding tag_memory
no_memory address size tags x = rw x refl

-- a table whose size its section says
section_told : (number : ℕ) (tags : List Tag) (sections : List Section) (b : Bool) (e : Extent) → value_of number tags ≡ some_if b e.addr → (b ≡ true → section_size (find (begins_at e.addr) sections) ≡ e.size) → section_memory number tags sections ≡ memory_if b e
unfolding section_memory window_at
section_told number tags sections true e x size = rw x (ap (λ (n : ℕ). window_at e.addr n) (size refl))
section_told number tags sections false e x size = rw x refl

pub no_section : (number : ℕ) (tags : List Tag) (sections : List Section) → value_of number tags ≡ None → section_memory number tags sections ≡ nothing
unfolding section_memory
no_section number tags sections x = rw x refl

tells_places : (r : Recipe) (t : Tables) (e : Extents) → IsPlain r → t.places ≡ chosen (rows_of r e) → HaveBytes r e → (r.settings.hashes.sysv ≡ true → r.settings.hashes.gnu ≡ true → e.hash.addr < e.gnu_hash.addr) → TellsPlaces r e (planned_sections (plan_of r) t) (tags_of r e)
unfolding symbols_memory window_at
tells_places r t e plain shape have before =
    let p : LayoutPlan = plan_of r in
    let tags : List Tag = tags_of r e in
    let sections : List Section = planned_sections p t in
    let v : AreValues r e tags = values_are r e have in
    record {
      symbols =
          ap (λ (o : Option ℕ). window_at (unwrap_or o 0) (section_size (find (has_kind 11) sections))) v.symtab
          ∙ ap (λ (o : Option Section). window_at e.symbols.addr (section_size o)) (symbols_section r t e plain shape)
          ∙ ap (λ (n : ℕ). window_at e.symbols.addr n) (symbols_size p e.symbols);
      strings = memory_tagged 5 10 tags true e.strings v.strtab v.strsz;
      others = memory_tagged 7 8 tags (list_any is_other r.relocations) e.others v.rela v.relasz;
      slots = memory_tagged 23 2 tags (list_any is_jump_slot r.relocations) e.slots v.jmprel v.pltrelsz;
      hash = section_told 4 tags sections r.settings.hashes.sysv e.hash v.hash (λ there. ap (λ (o : Option Section). section_size o) (hash_section r t e plain shape there (have.hash there)) ∙ hash_size p e.hash);
      gnu_hash = section_told 0x6ffffef5 tags sections r.settings.hashes.gnu e.gnu_hash v.gnu_hash
          (λ there. ap (λ (o : Option Section). section_size o) (gnu_section r t e plain shape there (have.gnu_hash there) (λ sysv. before sysv there)) ∙ gnu_size p e.gnu_hash);
      packed = no_memory 36 35 tags v.relr;
    }

-- ---- windows in the file

empty_by : (o : Option Segment) → (loaded_by nothing o).size ≡ 0
empty_by None = refl
empty_by (Some s) = omega arith

pub nothing_small : (ss : List Segment) → (file_window ss nothing).size ≡ 0
unfolding file_window
nothing_small ss = empty_by (loader ss 0)

pub nothing_in : (ss : List Segment) → in_file_part ss nothing ≡ true
unfolding in_file_part
nothing_in ss = equal (file_window ss nothing).size 0 (nothing_small ss)

pub nothing_loaded : (bytes : List ℕ) (ss : List Segment) → loaded bytes ss nothing ≡ []
unfolding loaded
nothing_loaded bytes ss = ap (λ (n : ℕ). take n (drop (file_window ss nothing).at bytes)) (nothing_small ss)

abbrev file_at : Extent → Window
file_at e = record { at = e.offset; size = e.size }

pub good_in : (p : LayoutPlan) (ss : List Segment) (tables_end : ℕ) (role : Role) (e : Extent) → IsGood p ss tables_end (place_in role e) → in_file_part ss (memory_at e) ≡ true
unfolding in_file_part
good_in p ss tables_end role e good = ap (λ (w : Window). w.size == e.size) good.window ∙ equal e.size e.size refl

in_if : (p : LayoutPlan) (ss : List Segment) (tables_end : ℕ) (role : Role) (b : Bool) (e : Extent) → (b ≡ true → IsGood p ss tables_end (place_in role e)) → in_file_part ss (memory_if b e) ≡ true
in_if p ss tables_end role true e good = good_in p ss tables_end role e (good refl)
in_if p ss tables_end role false e good = nothing_in ss

-- a window of a table that may be there
abbrev IsSpot : Bool → Extent → Window → Type 0
IsSpot b e w = (w.size ≡ 0) ⊎ ((b ≡ true) × (w ≡ file_at e))

spot_if : (p : LayoutPlan) (ss : List Segment) (tables_end : ℕ) (role : Role) (b : Bool) (e : Extent) → (b ≡ true → IsGood p ss tables_end (place_in role e)) → IsSpot b e (file_window ss (memory_if b e))
spot_if p ss tables_end role true e good = inr (refl, (good refl).window)
spot_if p ss tables_end role false e good = inl (nothing_small ss)

share_before : (v w : Window) → v.at + v.size ≤ w.at → share v w ≡ false
share_before v w le = elim (cases_Bool (nat_lt v.at (w.at + w.size))) [
  | inl lt ↦ rw (lt, not_above (v.at + v.size) w.at le) refl
  | inr ge ↦ rw ge refl
]

share_behind : (v w : Window) → w.at + w.size ≤ v.at → share v w ≡ false
share_behind v w le = rw (not_above (w.at + w.size) v.at le) refl

share_empty : (v w : Window) → v.size ≡ 0 → share v w ≡ false
share_empty v w none = third_false (nat_lt v.at (w.at + w.size)) (nat_lt w.at (v.at + v.size)) (nat_lt 0 v.size) (nat_lt 0 w.size) (not_above v.size 0 (omega (arith, none)))

share_other_empty : (v w : Window) → w.size ≡ 0 → share v w ≡ false
share_other_empty v w none = second_false (nat_lt v.at (w.at + w.size) && nat_lt w.at (v.at + v.size) && nat_lt 0 v.size) (nat_lt 0 w.size) (not_above w.size 0 (omega (arith, none)))

low_spot : (u w : Window) (b : Bool) (e : Extent) → u.at + u.size ≤ 1024 → IsSpot b e w → (b ≡ true → 1024 ≤ e.offset) → share u w ≡ false
low_spot u w b e low (inl none) high = share_other_empty u w none
low_spot u w b e low (inr here) high = ap (share u) here.1 ∙ share_before u (file_at e) (omega (arith, low, high here.0))

high_spot : (u w : Window) (b : Bool) (e : Extent) (n : ℕ) → n ≤ u.at → IsSpot b e w → (b ≡ true → e.offset + e.size ≤ n) → share u w ≡ false
high_spot u w b e n high (inl none) low = share_other_empty u w none
high_spot u w b e n high (inr here) low = ap (share u) here.1 ∙ share_behind u (file_at e) (omega (arith, high, low here.0))

spots_before : (v w : Window) (b c : Bool) (e f : Extent) → IsSpot b e v → IsSpot c f w → (b ≡ true → c ≡ true → e.offset + e.size ≤ f.offset) → share v w ≡ false
spots_before v w b c e f (inl none) y h = share_empty v w none
spots_before v w b c e f (inr x) (inl none) h = share_other_empty v w none
spots_before v w b c e f (inr x) (inr y) h = ap (λ (u : Window). share u w) x.1 ∙ ap (share (file_at e)) y.1 ∙ share_before (file_at e) (file_at f) (h x.0 y.0)

spots_behind : (v w : Window) (b c : Bool) (e f : Extent) → IsSpot b e v → IsSpot c f w → (c ≡ true → b ≡ true → f.offset + f.size ≤ e.offset) → share v w ≡ false
spots_behind v w b c e f (inl none) y h = share_empty v w none
spots_behind v w b c e f (inr x) (inl none) h = share_other_empty v w none
spots_behind v w b c e f (inr x) (inr y) h = ap (λ (u : Window). share u w) x.1 ∙ ap (share (file_at e)) y.1 ∙ share_behind (file_at e) (file_at f) (h y.0 x.0)

none_any : {X : Type 0} (q : X → Bool) (xs : List X) → AllByRecursion (λ x. q x ≡ false) xs → list_any q xs ≡ false
none_any q [] all = refl
none_any q (x ∷ xs) all = or_from (q x) (list_any q xs) all.0 (none_any q xs all.1)

abbrev NoShare : List Window → Type 0
NoShare [] = Unit {0}
NoShare (w ∷ ws) = AllByRecursion (λ v. share w v ≡ false) ws × NoShare ws

no_share : (ws : List Window) → NoShare ws → any_share ws ≡ false
no_share [] h = refl
no_share (w ∷ ws) h = or_from (list_any (share w) ws) (any_share ws) (none_any (share w) ws h.0) (no_share ws h.1)

empty_meets : (w : Window) (ws : List Window) → w.size ≡ 0 → list_any (share w) ws ≡ false
empty_meets w [] none = refl
empty_meets w (v ∷ ws) none = or_from (share w v) (list_any (share w) ws) (share_empty w v none) (empty_meets w ws none)

-- ---- clause 12

tags_there : (r : Recipe) (e : Extents) (tags : List Tag) → AreValues r e tags → lacks_tags tags ≡ false
unfolding lacks_tags
tags_there r e tags v = rw (v.strtab, v.strsz, v.symtab, v.syment) refl

symbols_right : (r : Recipe) (t : Tables) (e : Extents) → IsPlain r → tables (plan_of r) ≡ Ok t → t.places ≡ chosen (rows_of r e) → HaveBytes r e → e.symbols.size % 24 ≡ 0 → other_dynsym (tags_of r e) (planned_sections (plan_of r) t) ≡ false
unfolding other_dynsym
symbols_right r t e plain there shape have even =
    let p : LayoutPlan = plan_of r in
    let v : AreValues r e (tags_of r e) = values_are r e have in
    let one : not (count_by (has_kind 11) (planned_sections p t) == 1) ≡ false = ap (λ (b : Bool). not b) (one_dynsym r t plain there) in
    let right : list_any (is_misplaced (value 6 (tags_of r e))) (planned_sections p t) ≡ false =
    ap (λ (o : Option ℕ). list_any (is_misplaced (unwrap_or o 0)) (planned_sections p t)) v.symtab
    ∙ ap (list_any (is_misplaced e.symbols.addr)) (sections_are r t e plain shape)
    ∙ right_all p e.symbols.addr (all_places r e t) (right_places r t e even) in
    or_from (not (count_by (has_kind 11) (planned_sections p t) == 1)) (list_any (is_misplaced (value 6 (tags_of r e))) (planned_sections p t)) one right

not_lost : (number : ℕ) (tags : List Tag) (sections : List Section) (b : Bool) (e : Extent) → value_of number tags ≡ some_if b e.addr → (b ≡ true → list_any (begins_at e.addr) sections ≡ true) → is_lost number tags sections ≡ false
unfolding is_lost
not_lost number tags sections true e x there = rw (x, there refl) refl
not_lost number tags sections false e x there = rw x refl

absent_not_lost : (number : ℕ) (tags : List Tag) (sections : List Section) → value_of number tags ≡ None → is_lost number tags sections ≡ false
unfolding is_lost
absent_not_lost number tags sections x = rw x refl

none_lost : (r : Recipe) (t : Tables) (e : Extents) → IsPlain r → t.places ≡ chosen (rows_of r e) → HaveBytes r e → (r.settings.hashes.sysv ≡ true → r.settings.hashes.gnu ≡ true → e.hash.addr < e.gnu_hash.addr) → any_lost (tags_of r e) (planned_sections (plan_of r) t) ≡ false
unfolding any_lost
none_lost r t e plain shape have before =
    let p : LayoutPlan = plan_of r in
    let tags : List Tag = tags_of r e in
    let sections : List Section = planned_sections p t in
    let v : AreValues r e tags = values_are r e have in
    rw (
      not_lost 4 tags sections r.settings.hashes.sysv e.hash v.hash (λ there. any_found (begins_at e.hash.addr) sections (section_in p (place_in Hash e.hash)) (hash_section r t e plain shape there (have.hash there))),
      not_lost 0x6ffffef5 tags sections r.settings.hashes.gnu e.gnu_hash v.gnu_hash (λ there. any_found (begins_at e.gnu_hash.addr) sections (section_in p (place_in GnuHash e.gnu_hash)) (gnu_section r t e plain shape there (have.gnu_hash there) (λ sysv. before sysv there))),
      absent_not_lost 0x6ffffff0 tags sections v.versym,
      absent_not_lost 0x6ffffffc tags sections v.verdef,
      absent_not_lost 0x6ffffffe tags sections v.verneed,
    )
    refl

-- what is known of each table by its name
pub record AreGood (r : Recipe) (ss : List Segment) (tables_end : ℕ) (e : Extents) : Type 0 where
  pub hash : r.settings.hashes.sysv ≡ true → IsGood (plan_of r) ss tables_end (place_in Hash e.hash)
  pub gnu_hash : r.settings.hashes.gnu ≡ true → IsGood (plan_of r) ss tables_end (place_in GnuHash e.gnu_hash)
  pub symbols : IsGood (plan_of r) ss tables_end (place_in Dynsym e.symbols)
  pub strings : IsGood (plan_of r) ss tables_end (place_in Dynstr e.strings)
  pub others : list_any is_other r.relocations ≡ true → IsGood (plan_of r) ss tables_end (place_in RelaDyn e.others)
  pub slots : list_any is_jump_slot r.relocations ≡ true → IsGood (plan_of r) ss tables_end (place_in RelaPlt e.slots)
  pub dynamic : IsGood (plan_of r) ss tables_end (place_in Dynamic e.dynamic)

in_by : (ss : List Segment) (w v : Window) → w ≡ v → in_file_part ss v ≡ true → not (in_file_part ss w) ≡ false
in_by ss w v e there = ap (λ (u : Window). not (in_file_part ss u)) e ∙ ap (λ (b : Bool). not b) there

none_outside : (r : Recipe) (ss : List Segment) (tables_end : ℕ) (e : Extents) (sections : List Section) (tags : List Tag) → AreGood r ss tables_end e → AreValues r e tags → TellsPlaces r e sections tags → list_any (λ w. not (in_file_part ss w)) (tables_memory tags sections) ≡ false
unfolding tables_memory
none_outside r ss tables_end e sections tags good v told =
    let p : LayoutPlan = plan_of r in
    let absent : (number : ℕ) → value_of number tags ≡ None → not (in_file_part ss (section_memory number tags sections)) ≡ false = λ number x. in_by ss (section_memory number tags sections) nothing (no_section number tags sections x) (nothing_in ss) in
    none_any (λ w. not (in_file_part ss w)) (tables_memory tags sections) (
      in_by ss (symbols_memory tags sections) (memory_at e.symbols) told.symbols (good_in p ss tables_end Dynsym e.symbols good.symbols),
      (
        in_by ss (strings_memory tags) (memory_at e.strings) told.strings (good_in p ss tables_end Dynstr e.strings good.strings),
        (
          in_by ss (rela_memory tags) (memory_if (list_any is_other r.relocations) e.others) told.others (in_if p ss tables_end RelaDyn (list_any is_other r.relocations) e.others good.others),
          (
            in_by ss (jmprel_memory tags) (memory_if (list_any is_jump_slot r.relocations) e.slots) told.slots (in_if p ss tables_end RelaPlt (list_any is_jump_slot r.relocations) e.slots good.slots),
            (
              in_by ss (section_memory 4 tags sections) (memory_if r.settings.hashes.sysv e.hash) told.hash (in_if p ss tables_end Hash r.settings.hashes.sysv e.hash good.hash),
              (
                in_by ss (section_memory 0x6ffffef5 tags sections) (memory_if r.settings.hashes.gnu e.gnu_hash) told.gnu_hash (in_if p ss tables_end GnuHash r.settings.hashes.gnu e.gnu_hash good.gnu_hash),
                (absent 0x6ffffff0 v.versym, (absent 0x6ffffffc v.verdef, (absent 0x6ffffffe v.verneed, tt))),
              ),
            ),
          ),
        ),
      ),
    )

-- the dynamic table in memory
dynamic_shown : (b : Bool) (s : Settings) (tables_end : ℕ) (d : PlacedSection) → dynamic_memory (shown b (first_load s tables_end) (second_load s tables_end) (dynamic_segment d)) ≡ memory_of d
unfolding dynamic_memory first_load second_load dynamic_segment readable
dynamic_shown true s tables_end d = refl
dynamic_shown false s tables_end d = refl

pub dynamic_is : (r : Recipe) (t : Tables) (e : Extents) → IsPlain r → t.places ≡ chosen (rows_of r e) → 0 < e.dynamic.size → dynamic_memory (planned_segments (plan_of r) t) ≡ memory_at e.dynamic
dynamic_is r t e plain shape some =
    let p : LayoutPlan = plan_of r in
    let there : place_of t.places (codes ".dynamic") ≡ place_in Dynamic e.dynamic = ap (λ (l : List PlacedSection). place_of l (codes ".dynamic")) shape ∙ named_dynamic r e in
    let size : 0 < (place_of t.places (codes ".dynamic")).size = subst (λ (x : PlacedSection). 0 < x.size) (sym there) some in
    ap dynamic_memory (segments_shown p t (plain_settings r plain) (there_is (place_of t.places (codes ".dynamic")) size))
    ∙ dynamic_shown (has_data p.settings) p.settings (end_of t) (place_of t.places (codes ".dynamic"))
    ∙ ap (λ (x : PlacedSection). memory_of x) there

-- the order of the tables
pub record AreInOrder (r : Recipe) (e : Extents) : Type 0 where
  pub hashes : r.settings.hashes.sysv ≡ true → r.settings.hashes.gnu ≡ true → e.hash.offset + e.hash.size ≤ e.gnu_hash.offset
  pub symbols_others : list_any is_other r.relocations ≡ true → e.symbols.offset + e.symbols.size ≤ e.others.offset
  pub symbols_slots : list_any is_jump_slot r.relocations ≡ true → e.symbols.offset + e.symbols.size ≤ e.slots.offset
  pub symbols_dynamic : e.symbols.offset + e.symbols.size ≤ e.dynamic.offset
  pub others_slots : list_any is_other r.relocations ≡ true → list_any is_jump_slot r.relocations ≡ true → e.others.offset + e.others.size ≤ e.slots.offset
  pub others_dynamic : list_any is_other r.relocations ≡ true → e.others.offset + e.others.size ≤ e.dynamic.offset
  pub slots_dynamic : list_any is_jump_slot r.relocations ≡ true → e.slots.offset + e.slots.size ≤ e.dynamic.offset

-- the windows, of which no two share a byte
seven_apart : (r : Recipe) (ss : List Segment) (tables_end : ℕ) (e : Extents) (segments sections d y o s : Window) → segments.at ≡ 64 → segments.size ≤ 392 → tables_end ≤ sections.at → AreGood r ss tables_end e → AreInOrder r e
    → IsSpot true e.dynamic d → IsSpot true e.symbols y → IsSpot (list_any is_other r.relocations) e.others o → IsSpot (list_any is_jump_slot r.relocations) e.slots s
    → any_share (header_window ∷ segments ∷ sections ∷ d ∷ y ∷ o ∷ s ∷ []) ≡ false
seven_apart r ss tables_end e segments sections d y o s at size far good order dd yy oo slot =
    let c : Bool = list_any is_other r.relocations in
    let j : Bool = list_any is_jump_slot r.relocations in
    let low : segments.at + segments.size ≤ 1024 = omega (arith, at, size) in
    let some : 1024 ≤ e.dynamic.offset = good.dynamic.low in
    let past : 1024 ≤ sections.at = omega (arith, far, good.dynamic.low, good.dynamic.within) in
    no_share (header_window ∷ segments ∷ sections ∷ d ∷ y ∷ o ∷ s ∷ []) (
      (
        share_before header_window segments (omega (arith, at)),
        (
          share_before header_window sections (omega (arith, past)),
          (
            low_spot header_window d true e.dynamic (omega arith) dd (λ _. good.dynamic.low),
            (low_spot header_window y true e.symbols (omega arith) yy (λ _. good.symbols.low), (low_spot header_window o c e.others (omega arith) oo (λ there. (good.others there).low), (low_spot header_window s j e.slots (omega arith) slot (λ there. (good.slots there).low), tt))),
          ),
        ),
      ),
      (
        (
          share_before segments sections (omega (arith, low, past)),
          (
            low_spot segments d true e.dynamic low dd (λ _. good.dynamic.low),
            (low_spot segments y true e.symbols low yy (λ _. good.symbols.low), (low_spot segments o c e.others low oo (λ there. (good.others there).low), (low_spot segments s j e.slots low slot (λ there. (good.slots there).low), tt))),
          ),
        ),
        (
          (
            high_spot sections d true e.dynamic tables_end far dd (λ _. good.dynamic.within),
            (
              high_spot sections y true e.symbols tables_end far yy (λ _. good.symbols.within),
              (high_spot sections o c e.others tables_end far oo (λ there. (good.others there).within), (high_spot sections s j e.slots tables_end far slot (λ there. (good.slots there).within), tt)),
            ),
          ),
          (
            (spots_behind d y true true e.dynamic e.symbols dd yy (λ _ _. order.symbols_dynamic), (spots_behind d o true c e.dynamic e.others dd oo (λ there _. order.others_dynamic there), (spots_behind d s true j e.dynamic e.slots dd slot (λ there _. order.slots_dynamic there), tt))),
            (
              (spots_before y o true c e.symbols e.others yy oo (λ _ there. order.symbols_others there), (spots_before y s true j e.symbols e.slots yy slot (λ _ there. order.symbols_slots there), tt)),
              (
                (spots_before o s c j e.others e.slots oo slot (λ one two. order.others_slots one two), tt),
                (tt, tt),
              ),
            ),
          ),
        ),
      ),
    )

pub segments_low : (p : LayoutPlan) (t : Tables) → ((segments_window (planned_header p t)).at ≡ 64) × ((segments_window (planned_header p t)).size ≤ 392)
unfolding planned_header header_of
segments_low p t = (refl, omega (arith, few p t))

sections_far : (p : LayoutPlan) (t : Tables) → end_of t ≤ (sections_window (planned_header p t)).at
unfolding planned_header header_of
sections_far p t = omega (arith, parts_before p t, round_up-at_least (end_of t) 4096 (omega arith))

main_apart : (r : Recipe) (t : Tables) (e : Extents) → IsPlain r → t.places ≡ chosen (rows_of r e) → AreGood r (planned_segments (plan_of r) t) (end_of t) e → AreInOrder r e → TellsPlaces r e (planned_sections (plan_of r) t) (tags_of r e)
    → any_share (main_windows (planned_header (plan_of r) t) (planned_segments (plan_of r) t) (planned_sections (plan_of r) t) (tags_of r e)) ≡ false
unfolding main_windows
main_apart r t e plain shape good order told =
    let p : LayoutPlan = plan_of r in
    let h : Header = planned_header p t in
    let ss : List Segment = planned_segments p t in
    let sections : List Section = planned_sections p t in
    let tags : List Tag = tags_of r e in
    let c : Bool = list_any is_other r.relocations in
    let j : Bool = list_any is_jump_slot r.relocations in
    let d : Window = file_window ss (dynamic_memory ss) in
    let y : Window = file_window ss (symbols_memory tags sections) in
    let o : Window = file_window ss (rela_memory tags) in
    let s : Window = file_window ss (jmprel_memory tags) in
    let seven : List Window = header_window ∷ segments_window h ∷ sections_window h ∷ d ∷ y ∷ o ∷ s ∷ [] in
    let none : symtab_windows sections ≡ [] = ap symtab_windows (sections_are r t e plain shape) ∙ no_symtabs p (all_places r e t) in
    let dd : IsSpot true e.dynamic d = inr (refl, ap (file_window ss) (dynamic_is r t e plain shape good.dynamic.some) ∙ good.dynamic.window) in
    let yy : IsSpot true e.symbols y = inr (refl, ap (file_window ss) told.symbols ∙ good.symbols.window) in
    let oo : IsSpot c e.others o = subst (λ (w : Window). IsSpot c e.others (file_window ss w)) (sym told.others) (spot_if p ss (end_of t) RelaDyn c e.others good.others) in
    let slot : IsSpot j e.slots s = subst (λ (w : Window). IsSpot j e.slots (file_window ss w)) (sym told.slots) (spot_if p ss (end_of t) RelaPlt j e.slots good.slots) in
    ap (λ (l : List Window). any_share (seven ++ l)) none
    ∙ seven_apart r ss (end_of t) e (segments_window h) (sections_window h) d y o s (segments_low p t).0 (segments_low p t).1 (sections_far p t) good order dd yy oo slot

-- ---- clause 13

rela_good : (tags : List Tag) (b : Bool) (addr size : ℕ) → value_of 7 tags ≡ some_if b addr → value_of 8 tags ≡ some_if b size → value_of 9 tags ≡ some_if b 24 → (b ≡ true → size % 24 ≡ 0) → bad_rela tags ≡ false
unfolding bad_rela
rela_good tags true addr size x y z even = rw (x, y, z, even refl) refl
rela_good tags false addr size x y z even = rw (x, y, z) refl

jmprel_good : (tags : List Tag) (b : Bool) (addr size : ℕ) → value_of 23 tags ≡ some_if b addr → value_of 2 tags ≡ some_if b size → value_of 20 tags ≡ some_if b 7 → (b ≡ true → size % 24 ≡ 0) → bad_jmprel tags ≡ false
unfolding bad_jmprel
jmprel_good tags true addr size x y z even = rw (x, y, z, even refl) refl
jmprel_good tags false addr size x y z even = rw (x, y, z) refl

-- ---- clause 14

no_relr_tags : (tags : List Tag) → value_of 36 tags ≡ None → value_of 35 tags ≡ None → value_of 37 tags ≡ None → bad_relr_tags tags ≡ false
unfolding bad_relr_tags
no_relr_tags tags x y z = rw (x, y, z) refl

relr_apart : (h : Header) (ss : List Segment) (sections : List Section) (tags : List Tag) → relr_memory tags ≡ nothing → misplaced_relr h ss sections tags ≡ false
unfolding misplaced_relr
relr_apart h ss sections tags e =
    ap (λ (w : Window). not (in_file_part ss w) || meets (main_windows h ss sections tags) (file_window ss w)) e
    ∙ or_from (not (in_file_part ss nothing)) (meets (main_windows h ss sections tags) (file_window ss nothing)) (ap (λ (b : Bool). not b) (nothing_in ss)) (empty_meets (file_window ss nothing) (main_windows h ss sections tags) (nothing_small ss))

-- a test that fails refuses nothing
refuses_not : (b : Bool) (rest : Result (List ℕ) RelrFault) → b ≡ false → unless b Packed rest ≡ rest
refuses_not true rest h = absurd (false≢true (sym h))
refuses_not false rest h = refl

pub nothing_unpacked : (n : ℕ) → packed.unpacked [] n ≡ Ok []
unfolding packed.unpacked packed.places packed.places_from entries
nothing_unpacked n = refuses_not (nat_lt n 0) (Ok []) (not_above 0 n (omega arith))

relr_good : (bytes : List ℕ) (ss : List Segment) (tags : List Tag) → relr_memory tags ≡ nothing → bad_relr_table bytes ss tags ≡ false
unfolding bad_relr_table
relr_good bytes ss tags e =
    ap (λ (l : List ℕ). not (is_ok (packed.unpacked l (length bytes / 8)))) (ap (loaded bytes ss) e ∙ nothing_loaded bytes ss)
    ∙ ap (λ (x : Result (List ℕ) RelrFault). not (is_ok x)) (nothing_unpacked (length bytes / 8))

-- ---- all of them

all_taken : (bytes : List ℕ) (h : Header) (ss : List Segment) (sections : List Section) (tags : List Tag) → bad_tables h ss sections tags ≡ false → bad_relocation_tables tags ≡ false → bad_packed bytes h ss sections tags ≡ false → check_tables bytes h ss sections tags ≡ Ok tt
unfolding check_tables
all_taken bytes h ss sections tags x y z = rw (x, y, z) refl

good_by_name : (r : Recipe) (bytes : List ℕ) (t : Tables) (placed : IsPlaced r bytes t) → AreGood r (planned_segments (plan_of r) t) (end_of t) placed.shape.extents
good_by_name r bytes t placed =
    let g = placed.good in
    record {
      hash = g.0;
      gnu_hash = g.1.0;
      symbols = g.1.1.0 refl;
      strings = g.1.1.1.0 refl;
      others = g.1.1.1.1.0;
      slots = g.1.1.1.1.1.0;
      dynamic = g.1.1.1.1.1.1.0 refl;
    }

in_order : (r : Recipe) (bytes : List ℕ) (t : Tables) (placed : IsPlaced r bytes t) → AreInOrder r placed.shape.extents
in_order r bytes t placed =
    let l = placed.later in
    let symbols = l.1.1.0 in
    let others = l.1.1.1.1.0 in
    let slots = l.1.1.1.1.1.0 in
    record {
      hashes = l.0.0;
      symbols_others = symbols.1.0 refl;
      symbols_slots = symbols.1.1.0 refl;
      symbols_dynamic = symbols.1.1.1.0 refl refl;
      others_slots = others.0;
      others_dynamic = λ there. others.1.0 there refl;
      slots_dynamic = λ there. slots.0 there refl;
    }

-- what is known of them together
pub record AreTaken (r : Recipe) (bytes : List ℕ) (t : Tables) (e : Extents) : Type 0 where
  pub good : AreGood r (planned_segments (plan_of r) t) (end_of t) e
  pub values : AreValues r e (tags_of r e)
  pub told : TellsPlaces r e (planned_sections (plan_of r) t) (tags_of r e)
  pub taken : check_tables bytes (planned_header (plan_of r) t) (planned_segments (plan_of r) t) (planned_sections (plan_of r) t) (tags_of r e) ≡ Ok tt

pub are_taken : (r : Recipe) (bytes : List ℕ) (t : Tables) → IsPlain r → tables (plan_of r) ≡ Ok t → (here : IsPlaced r bytes t) → AreTaken r bytes t here.shape.extents
unfolding bad_tables any_table_outside tables_overlap bad_relocation_tables bad_packed
are_taken r bytes t plain there here =
    let p : LayoutPlan = plan_of r in
    let e : Extents = here.shape.extents in
    let shape : t.places ≡ chosen (rows_of r e) = here.shape.is in
    let h : Header = planned_header p t in
    let ss : List Segment = planned_segments p t in
    let sections : List Section = planned_sections p t in
    let tags : List Tag = tags_of r e in
    let good : AreGood r ss (end_of t) e = good_by_name r bytes t here in
    let order : AreInOrder r e = in_order r bytes t here in
    let have : HaveBytes r e = record { hash = λ has. (good.hash has).some; gnu_hash = λ has. (good.gnu_hash has).some; others = λ has. (good.others has).some; slots = λ has. (good.slots has).some } in
    let before : r.settings.hashes.sysv ≡ true → r.settings.hashes.gnu ≡ true → e.hash.addr < e.gnu_hash.addr =
    λ sysv gnu. omega (arith, (good.hash sysv).address, (good.gnu_hash gnu).address, (good.hash sysv).some, order.hashes sysv gnu) in
    let v : AreValues r e tags = values_are r e have in
    let told : TellsPlaces r e sections tags = tells_places r t e plain shape have before in
    let twelve : bad_tables h ss sections tags ≡ false =
    rw (
      tags_there r e tags v,
      symbols_right r t e plain there shape have (symbols_even p ss (end_of t) e.symbols good.symbols),
      none_lost r t e plain shape have before,
      none_outside r ss (end_of t) e sections tags good v told,
      main_apart r t e plain shape good order told,
    )
    refl in
    let thirteen : bad_relocation_tables tags ≡ false =
    rw (
      rela_good tags (list_any is_other r.relocations) e.others.addr e.others.size v.rela v.relasz v.relaent (λ has. others_even p ss (end_of t) e.others (good.others has)),
      jmprel_good tags (list_any is_jump_slot r.relocations) e.slots.addr e.slots.size v.jmprel v.pltrelsz v.pltrel (λ has. slots_even p ss (end_of t) e.slots (good.slots has)),
    )
    refl in
    let fourteen : bad_packed bytes h ss sections tags ≡ false = rw (no_relr_tags tags v.relr v.relrsz v.relrent, relr_apart h ss sections tags told.packed, relr_good bytes ss tags told.packed) refl in
    record { good = good; values = v; told = told; taken = all_taken bytes h ss sections tags twelve thirteen fourteen }

pub tables_taken : TablesAreTaken
tables_taken r bytes plain made_so =
    let all = placed r bytes plain made_so in
    let t : Tables = all.0 in
    let here : IsPlaced r bytes t = all.2 in
    let e : Extents = here.shape.extents in
    let taken : AreTaken r bytes t e = are_taken r bytes t plain all.1 here in
    (t, all.1, record { extents = e; places = here.shape.is ∙ dynamic_last r e; tells = taken.told; taken = taken.taken })
