-- The file of a plain and modest recipe is accepted, with the object that the recipe describes.
use Rattle.std.proofs.Common.{◌≡◌, ℕ, ◌+◌, ◌*◌, ◌/◌, ◌^◌, ◌<◌, ◌≤◌, Bool, true, false, List, [], ◌∷◌, ◌++◌, length, map, Some, None, Ok, refl, sym, ap, subst, ◌∙◌, arith, inl, inr}
use Rattle.std.specs.Prelude.{not, ◌==◌, ◌&&◌, nat_le, filter, codes}
use Rattle.std.specs.List.{AllByRecursion, flat_map, list_any}
use Rattle.std.proofs.lemmas.Bool.{cases_Bool, false≢true, or_parts}
use Rattle.std.proofs.lemmas.Bool.Decides.{nat_tests}
use Rattle.std.proofs.lemmas.List.{append-nil, length-map}
use Rattle.pl_base.specs.Windows.{Window, AllIn}
use Rattle.pl_base.proofs.AnswerLaws.{ok_same}
use Rattle.pl_elf.specs.Clauses as elf
use Rattle.pl_elf.specs.Headers.{sections, is_dynamic, segment_of_kind}
use Rattle.pl_elf.specs.declared.header.Header.{Header}
use Rattle.pl_elf.specs.declared.section.Section.{Section}
use Rattle.pl_elf.specs.declared.segment.Segment.{Segment}
use Rattle.pl_dyn.specs.Read.{value_of}
use Rattle.pl_dyn.specs.declared.tags.Tag.{Tag}
use Rattle.pl_hash.specs.Table.{HashTable}
use Rattle.pl_relr.specs.Places as packed
use Rattle.pl_sym.specs.declared.symbol.Symbol as read
use Rattle.pl_object.specs.FilePart.{nothing, loads_byte, loaded_by, file_window, in_file_part, loaded}
use Rattle.pl_object.specs.PlaceClauses.{misplaced_copy}
use Rattle.pl_object.specs.Reads.{dynamic, check_rest, named_places, packed_places, relocations, layout, linking, check, checked, dynamic_object, parts, headers, reads}
use Rattle.pl_object.specs.Relocations.{relocs, packed_relocs}
use Rattle.pl_object.specs.SymbolClauses.{base_not_zero, check_symbols, has_ifunc, hash_tables}
use Rattle.pl_object.specs.Tables.{dynamic_memory, symbols_memory, strings_memory, rela_memory, jmprel_memory, relr_memory, section_memory, tables_memory, link_windows, header_window, symtab_windows}
use Rattle.pl_object.specs.declared.headers.Headers.{Headers}
use Rattle.pl_object.specs.declared.layout.Layout.{Layout}
use Rattle.pl_object.specs.declared.reloc.Reloc.{Reloc}
use Rattle.pl_object.proofs.ReadLaws.{dynamic_object_is}
use Rattle.pl_build.specs.declared.layout.Tables.{Tables}
use Rattle.pl_build.specs.declared.line.Relocation.{Relocation}
use Rattle.pl_build.specs.declared.layout_plan.LayoutPlan.{LayoutPlan}
use Rattle.pl_build.specs.declared.recipe.Recipe.{Recipe}
use Rattle.pl_build.specs.declared.recipe.Settings.{Settings}
use Rattle.pl_build.specs.declared.roles.PlacedSection.{PlacedSection}
use Rattle.pl_build.specs.declared.roles.Role.{Role}
use Rattle.pl_build.specs.declared.roles.Role.TheVariants.{Hash, GnuHash, Dynsym, Dynstr, RelaDyn, RelaPlt, Dynamic as DynamicTable}
use Rattle.pl_build.specs.Choices.{chosen}
use Rattle.pl_build.specs.Dynamic.{tag, is_at, null_place, place_of, is_there, needed_tags, dynamic_table, flags_1}
use Rattle.pl_build.specs.File.{type_of, file_end}
use Rattle.pl_build.specs.HashTables.{sysv_table, gnu_table}
use Rattle.pl_build.specs.Layout.{contents, end_of, tables}
use Rattle.pl_build.specs.LayoutPlan.{plan_of, base_of, data_address, is_jump_slot, is_other}
use Rattle.pl_build.specs.Segments.{readable, first_load, second_load, dynamic_segment, has_data}
use Rattle.pl_build.specs.Relocations.{rela_bytes, rela_of, others, jump_slots}
use Rattle.pl_build.specs.StringTable.{text_at}
use Rattle.pl_build.specs.SymbolTable.{symbol_table, entry_of, null_entry}
use Rattle.law_demo.specs.Accepted.{planned_heads, planned_dynamic, planned_linking, planned_hashes, planned_layout, planned_object, PlainIsAccepted}
use Rattle.law_demo.specs.Modest.{IsModest}
use Rattle.law_demo.specs.Plain.{IsPlain}
use Rattle.law_demo.specs.Planned.{header_of, planned_header, planned_segments, planned_sections, IsHeaded}
use Rattle.law_demo.specs.Relocs.{planned_symbols, read_as, planned_relocs, RowsAreRead, AreTaken}
use Rattle.law_demo.specs.Rows.{FitsTag}
use Rattle.law_demo.specs.Shape.{Extent, Extents, place_in, rows_before, before_dynamic, memory_at, memory_if, TellsPlaces}
use Rattle.law_demo.specs.Tags.{planned_tags}
use Rattle.law_demo.proofs.ClauseLaws.{seen, shown}
use Rattle.law_demo.proofs.FileLaws.{names_of, file_by, made_is}
use Rattle.law_demo.proofs.FoundLaws.{base_in_page, hashes_complete, hashes_read, no_duplicates, small_enough, no_flags, no_flag_tag, no_interp, no_pie}
use Rattle.law_demo.proofs.HeadLaws.{all_append, base_small, plain_settings, heads_are_read}
use Rattle.law_demo.proofs.HeadedLaws.{planned_dynamic as dynamic_planned, heads_within, file_long, segments_shown, there_is, files_headed}
use Rattle.law_demo.proofs.LinkingLaws.{linking_read}
use Rattle.law_demo.proofs.PlacedLaws.{AreGood, AreTaken as TablesAreTaken, are_taken, all_places, sections_are, no_symtabs, segments_low, no_section, named_dynamic, nothing_small, nothing_loaded, nothing_unpacked, no_words, no_defined, no_needed, no_packed, dynamic_is, good_in, entries_long}
use Rattle.law_demo.proofs.RelocLaws.{dynamic_misses, plan_relocations, kind_is, rows_read, relocs_taken}
use Rattle.law_demo.proofs.RoleLaws.{all_chosen, plain_texts}
use Rattle.law_demo.proofs.ShapeLaws.{rows_of, dynamic_last, IsGood, IsPlaced, placed}
use Rattle.law_demo.proofs.TagLaws.{dynamic_read}
use Rattle.law_demo.proofs.TextLaws.{text_within}
use Rattle.law_demo.proofs.ValueLaws.{planned_rows, tags_are}

second_false : (a b : Bool) → b ≡ false → (a && b) ≡ false
second_false true b h = h
second_false false b h = refl

not_at_most : (a b : ℕ) → b < a → nat_le a b ≡ false
not_at_most a b lt = grind (arith, nat_tests)

-- ---- what is loaded where each table is

pub record AreHeld (r : Recipe) (bytes : List ℕ) (ss : List Segment) (e : Extents) : Type 0 where
  pub hash : r.settings.hashes.sysv ≡ true → loaded bytes ss (memory_at e.hash) ≡ sysv_table (plan_of r)
  pub gnu_hash : r.settings.hashes.gnu ≡ true → loaded bytes ss (memory_at e.gnu_hash) ≡ gnu_table (plan_of r)
  pub symbols : loaded bytes ss (memory_at e.symbols) ≡ symbol_table (plan_of r)
  pub strings : loaded bytes ss (memory_at e.strings) ≡ (plan_of r).strings.bytes
  pub rest : list_any is_other r.relocations ≡ true → loaded bytes ss (memory_at e.others) ≡ others (plan_of r)
  pub slots : list_any is_jump_slot r.relocations ≡ true → loaded bytes ss (memory_at e.slots) ≡ jump_slots (plan_of r)
  pub dynamic : loaded bytes ss (memory_at e.dynamic) ≡ dynamic_table (plan_of r) (before_dynamic r e)

pub held_by_name : (r : Recipe) (bytes : List ℕ) (t : Tables) (here : IsPlaced r bytes t) → AreHeld r bytes (planned_segments (plan_of r) t) here.shape.extents
unfolding contents
held_by_name r bytes t here =
    let h = here.held in
    record {
      hash = λ there. (h.0 there).holds;
      gnu_hash = λ there. (h.1.0 there).holds;
      symbols = (h.1.1.0 refl).holds;
      strings = (h.1.1.1.0 refl).holds;
      rest = λ there. (h.1.1.1.1.0 there).holds;
      slots = λ there. (h.1.1.1.1.1.0 there).holds;
      dynamic = here.dynamic;
    }

-- ---- how many symbols and strings there are

few_symbols : (r : Recipe) (ss : List Segment) (tables_end : ℕ) (e : Extents) → tables_end ≤ 1048576 → AreGood r ss tables_end e → length (plan_of r).symbols + 1 < 2 ^ 32
unfolding contents symbol_table
few_symbols r ss tables_end e fits good =
    let p : LayoutPlan = plan_of r in
    let long : e.symbols.size ≡ 24 * length (null_entry ∷ map (entry_of p) p.symbols) = good.symbols.long ∙ entries_long (null_entry ∷ map (entry_of p) p.symbols) in
    omega (arith, long, length-map p.symbols (entry_of p), good.symbols.within, fits)

few_strings : (r : Recipe) (ss : List Segment) (tables_end : ℕ) (e : Extents) → tables_end ≤ 1048576 → AreGood r ss tables_end e → length (plan_of r).strings.bytes < 2 ^ 32
unfolding contents
few_strings r ss tables_end e fits good =
    let long : e.strings.size ≡ length (plan_of r).strings.bytes = good.strings.long in
    omega (arith, long, good.strings.within, fits)

-- ---- the tags fit their fields

pub record IsSmall (place : PlacedSection) : Type 0 where
  pub addr : place.addr < 2 ^ 64
  pub size : place.size < 2 ^ 64

small_one : (p : LayoutPlan) (ss : List Segment) (tables_end : ℕ) (place : PlacedSection) → tables_end ≤ 1048576 → IsGood p ss tables_end place → IsSmall place
small_one p ss tables_end place fits good = record { addr = omega (arith, good.address, base_small p.settings, good.within, fits); size = omega (arith, good.within, fits) }

place_small : (name : List ℕ) (places : List PlacedSection) → AllByRecursion IsSmall places → IsSmall (place_of places name)
unfolding place_of
place_small name [] all = record { addr = omega arith; size = omega arith }
place_small name (x ∷ places) all = elim (cases_Bool (is_at name x)) [
  | inl hit ↦ rw hit all.0
  | inr miss ↦ rw miss (place_small name places all.1)
]

before_small : (r : Recipe) (ss : List Segment) (tables_end : ℕ) (e : Extents) → tables_end ≤ 1048576 → AreGood r ss tables_end e → AllByRecursion IsSmall (before_dynamic r e)
before_small r ss tables_end e fits good =
    let p : LayoutPlan = plan_of r in
    all_chosen IsSmall (rows_before r e) (
      λ there. small_one p ss tables_end (place_in Hash e.hash) fits (good.hash there),
      (
        λ there. small_one p ss tables_end (place_in GnuHash e.gnu_hash) fits (good.gnu_hash there),
        (
          λ _. small_one p ss tables_end (place_in Dynsym e.symbols) fits good.symbols,
          (
            λ _. small_one p ss tables_end (place_in Dynstr e.strings) fits good.strings,
            (λ there. small_one p ss tables_end (place_in RelaDyn e.others) fits (good.others there), (λ there. small_one p ss tables_end (place_in RelaPlt e.slots) fits (good.slots there), tt)),
          ),
        ),
      ),
    )

fits_tag : (n v : ℕ) → n < 2 ^ 64 → v < 2 ^ 64 → FitsTag (tag n v)
fits_tag n v x y = record { number = x; value = y }

needed_fit : (p : LayoutPlan) (names : List (List ℕ)) → ((name : List ℕ) → text_at p.strings name < 2 ^ 64) → AllByRecursion FitsTag (map (λ name. tag 1 (text_at p.strings name)) names)
needed_fit p [] small = tt
needed_fit p (name ∷ names) small = (fits_tag 1 (text_at p.strings name) (omega arith) (small name), needed_fit p names small)

not_there : (x : PlacedSection) → x ≡ null_place → is_there x ≡ true → ⊥
not_there x e there = false≢true (sym (ap is_there e) ∙ there)

few_versions : (r : Recipe) → IsPlain r → length (plan_of r).versions + 1 < 2 ^ 64
unfolding plan_of
few_versions r plain = omega (arith, ap (λ (l : List (List ℕ)). length l) plain.versions)

rows_fit : (r : Recipe) (ss : List Segment) (tables_end : ℕ) (e : Extents) → IsPlain r → tables_end ≤ 1048576 → AreGood r ss tables_end e → AllByRecursion FitsTag (chosen (planned_rows (plan_of r) (before_dynamic r e)))
rows_fit r ss tables_end e plain fits good =
    let p : LayoutPlan = plan_of r in
    let places : List PlacedSection = before_dynamic r e in
    let all : AllByRecursion IsSmall places = before_small r ss tables_end e fits good in
    let hash = place_small (codes ".hash") places all in
    let gnu_hash = place_small (codes ".gnu.hash") places all in
    let strings = place_small (codes ".dynstr") places all in
    let symbols = place_small (codes ".dynsym") places all in
    let slots = place_small (codes ".rela.plt") places all in
    let rest = place_small (codes ".rela.dyn") places all in
    let flags : flags_1 p.settings ≡ 0 = no_flags p (plain_settings r plain) in
    let none : length p.versions + 1 < 2 ^ 64 = few_versions r plain in
    all_chosen FitsTag (planned_rows p places) (
      λ _. fits_tag 4 _ (omega arith) hash.addr,
      (
        λ _. fits_tag 0x6ffffef5 _ (omega arith) gnu_hash.addr,
        (
          λ _. fits_tag 5 _ (omega arith) strings.addr,
          (
            λ _. fits_tag 6 _ (omega arith) symbols.addr,
            (
              λ _. fits_tag 10 _ (omega arith) strings.size,
              (
                λ _. fits_tag 11 24 (omega arith) (omega arith),
                (
                  λ _. fits_tag 16 0 (omega arith) (omega arith),
                  (
                    λ _. fits_tag 2 _ (omega arith) slots.size,
                    (
                      λ _. fits_tag 20 7 (omega arith) (omega arith),
                      (
                        λ _. fits_tag 23 _ (omega arith) slots.addr,
                        (
                          λ _. fits_tag 7 _ (omega arith) rest.addr,
                          (
                            λ _. fits_tag 8 _ (omega arith) rest.size,
                            (
                              λ _. fits_tag 9 24 (omega arith) (omega arith),
                              (
                                λ there. absurd (not_there (place_of places (codes ".relr.dyn")) (no_packed r e) there),
                                (
                                  λ there. absurd (not_there (place_of places (codes ".relr.dyn")) (no_packed r e) there),
                                  (
                                    λ _. fits_tag 37 8 (omega arith) (omega arith),
                                    (
                                      λ there. absurd (not_there (place_of places (codes ".gnu.version")) (no_words r e) there),
                                      (
                                        λ there. absurd (not_there (place_of places (codes ".gnu.version_d")) (no_defined r e) there),
                                        (
                                          λ _. fits_tag 0x6ffffffd _ (omega arith) none,
                                          (
                                            λ there. absurd (not_there (place_of places (codes ".gnu.version_r")) (no_needed r e) there),
                                            (
                                              λ there. absurd (not_there (place_of places (codes ".gnu.version_r")) (no_needed r e) there),
                                              (λ _. fits_tag 21 0 (omega arith) (omega arith), (λ _. fits_tag 24 0 (omega arith) (omega arith), (λ _. fits_tag 30 8 (omega arith) (omega arith), (λ _. fits_tag 0x6ffffffb (flags_1 p.settings) (omega arith) (omega (arith, flags)), tt)))),
                                            ),
                                          ),
                                        ),
                                      ),
                                    ),
                                  ),
                                ),
                              ),
                            ),
                          ),
                        ),
                      ),
                    ),
                  ),
                ),
              ),
            ),
          ),
        ),
      ),
    )

tags_fit : (r : Recipe) (ss : List Segment) (tables_end : ℕ) (e : Extents) → IsPlain r → tables_end ≤ 1048576 → AreGood r ss tables_end e → AllByRecursion FitsTag (planned_tags (plan_of r) (before_dynamic r e))
unfolding needed_tags
tags_fit r ss tables_end e plain fits good =
    let p : LayoutPlan = plan_of r in
    let places : List PlacedSection = before_dynamic r e in
    let small : (name : List ℕ) → text_at p.strings name < 2 ^ 64 = λ name. omega (arith, text_within p.strings name (plain_texts r plain), few_strings r ss tables_end e fits good) in
    subst (AllByRecursion FitsTag) (sym (tags_are p places))
    (all_append FitsTag (needed_tags p) (chosen (planned_rows p places)) (needed_fit p p.needed small) (rows_fit r ss tables_end e plain fits good))

-- ---- clauses 9 to 11

pub dynamic_ok : (r : Recipe) (bytes : List ℕ) (t : Tables) (e : Extents) → IsPlain r → end_of t ≤ 1048576 → t.places ≡ chosen (rows_of r e) → AreGood r (planned_segments (plan_of r) t) (end_of t) e → AreHeld r bytes (planned_segments (plan_of r) t) e
    → dynamic bytes (planned_segments (plan_of r) t) ≡ Ok (planned_dynamic (plan_of r) (before_dynamic r e))
unfolding dynamic planned_dynamic
dynamic_ok r bytes t e plain fits shape good held =
    let p : LayoutPlan = plan_of r in
    let ss : List Segment = planned_segments p t in
    let memory : dynamic_memory ss ≡ memory_at e.dynamic = dynamic_is r t e plain shape good.dynamic.some in
    let inside : in_file_part ss (dynamic_memory ss) ≡ true = ap (in_file_part ss) memory ∙ good_in p ss (end_of t) DynamicTable e.dynamic good.dynamic in
    let rows : loaded bytes ss (dynamic_memory ss) ≡ dynamic_table p (before_dynamic r e) = ap (loaded bytes ss) memory ∙ held.dynamic in
    rw (inside, rows, dynamic_read p (before_dynamic r e) (tags_fit r ss (end_of t) e plain fits good)) refl

-- ---- the relocations and the hash tables

loaded_if : (bytes : List ℕ) (ss : List Segment) (b : Bool) (e : Extent) (content : List ℕ) → (b ≡ true → loaded bytes ss (memory_at e) ≡ content) → (b ≡ false → content ≡ []) → loaded bytes ss (memory_if b e) ≡ content
loaded_if bytes ss true e content held none = held refl
loaded_if bytes ss false e content held none = nothing_loaded bytes ss ∙ sym (none refl)

filter_nothing : (q : Relocation → Bool) (rs : List Relocation) → list_any q rs ≡ false → filter q rs ≡ []
filter_nothing q [] none = refl
filter_nothing q (x ∷ rs) none = let each = or_parts (q x) (list_any q rs) none in rw each.0 (filter_nothing q rs each.1)

no_rows : (r : Recipe) (q : Relocation → Bool) → list_any q r.relocations ≡ false → flat_map rela_bytes (map (rela_of (plan_of r)) (filter q (plan_of r).relocations)) ≡ []
no_rows r q none =
    ap (λ (rs : List Relocation). flat_map rela_bytes (map (rela_of (plan_of r)) (filter q rs))) (plan_relocations r)
    ∙ ap (λ (rs : List Relocation). flat_map rela_bytes (map (rela_of (plan_of r)) rs)) (filter_nothing q r.relocations none)

none_packed : (bytes : List ℕ) (ss : List Segment) (tags : List Tag) → relr_memory tags ≡ nothing → packed_places bytes ss tags ≡ []
unfolding packed_places
none_packed bytes ss tags e =
    ap (λ (l : List ℕ). named_places (packed.unpacked l (length bytes / 8))) (ap (loaded bytes ss) e ∙ nothing_loaded bytes ss)
    ∙ ap named_places (nothing_unpacked (length bytes / 8))

relocations_are : (r : Recipe) (bytes : List ℕ) (ss : List Segment) (sections : List Section) (e : Extents) (tags : List Tag) → IsModest r → length (plan_of r).symbols + 1 < 2 ^ 32 → AreHeld r bytes ss e → TellsPlaces r e sections tags
    → relocations bytes ss tags (planned_symbols (plan_of r)) ≡ planned_relocs (plan_of r)
unfolding relocations planned_relocs packed_relocs others jump_slots
relocations_are r bytes ss sections e tags m few_all held told =
    let p : LayoutPlan = plan_of r in
    let symbols : List read.Symbol = planned_symbols p in
    let rows : RowsAreRead p = rows_read r m few_all in
    let one : loaded bytes ss (rela_memory tags) ≡ others p = ap (loaded bytes ss) told.others ∙ loaded_if bytes ss (list_any is_other r.relocations) e.others (others p) held.rest (λ none. no_rows r is_other none) in
    let two : loaded bytes ss (jmprel_memory tags) ≡ jump_slots p = ap (loaded bytes ss) told.slots ∙ loaded_if bytes ss (list_any is_jump_slot r.relocations) e.slots (jump_slots p) held.slots (λ none. no_rows r is_jump_slot none) in
    let first : List Reloc = read_as p (filter is_other p.relocations) in
    let next : List Reloc = read_as p (filter is_jump_slot p.relocations) in
    ap (λ (l : List Reloc). l ++ relocs symbols (loaded bytes ss (jmprel_memory tags)) ++ packed_relocs bytes ss (packed_places bytes ss tags)) (ap (relocs symbols) one ∙ rows.others)
    ∙ ap (λ (l : List Reloc). first ++ l ++ packed_relocs bytes ss (packed_places bytes ss tags)) (ap (relocs symbols) two ∙ rows.slots)
    ∙ ap (λ (l : List ℕ). first ++ next ++ packed_relocs bytes ss l) (none_packed bytes ss tags told.packed)
    ∙ append-nil (first ++ next)

layout_with : List HashTable → List Reloc → ℕ → List Window → Layout
layout_with hashes rs n windows = record { hashes = hashes; relocations = rs; packed = n; windows = windows }

layout_is : (r : Recipe) (bytes : List ℕ) (t : Tables) (e : Extents) → IsModest r → length (plan_of r).symbols + 1 < 2 ^ 32 → AreHeld r bytes (planned_segments (plan_of r) t) e → TablesAreTaken r bytes t e
    → layout bytes (planned_heads (plan_of r) t) (planned_tags (plan_of r) (before_dynamic r e)) (planned_linking r) ≡ planned_layout r t (before_dynamic r e)
unfolding layout planned_layout planned_heads planned_linking layout_with
layout_is r bytes t e m few_all held taken =
    let p : LayoutPlan = plan_of r in
    let ss : List Segment = planned_segments p t in
    let sections : List Section = planned_sections p t in
    let tags : List Tag = planned_tags p (before_dynamic r e) in
    let ws : List Window = link_windows (planned_header p t) ss sections tags in
    let told : TellsPlaces r e sections tags = taken.told in
    let hashes : hash_tables bytes ss sections tags (length (planned_symbols p)) ≡ planned_hashes r =
    hashes_read r bytes ss sections tags e.hash.addr e.gnu_hash.addr taken.values.hash taken.values.gnu_hash
    (λ there. ap (loaded bytes ss) (told.hash ∙ ap (λ (b : Bool). memory_if b e.hash) there) ∙ held.hash there)
    (λ there. ap (loaded bytes ss) (told.gnu_hash ∙ ap (λ (b : Bool). memory_if b e.gnu_hash) there) ∙ held.gnu_hash there) in
    let rs : List Reloc = relocations bytes ss tags (planned_symbols p) in
    let n : ℕ = length (packed_places bytes ss tags) in
    ap (λ (h : List HashTable). layout_with h rs n ws) hashes
    ∙ ap (λ (l : List Reloc). layout_with (planned_hashes r) l n ws) (relocations_are r bytes ss sections e tags m few_all held told)
    ∙ ap (λ (l : List ℕ). layout_with (planned_hashes r) (planned_relocs p) (length l) ws) (none_packed bytes ss tags told.packed)

-- ---- the link windows end where the tables do

second_not : (s : Settings) (tables_end : ℕ) → loads_byte 0 (second_load s tables_end) ≡ false
unfolding loads_byte second_load data_address
second_not s tables_end = rw (not_at_most (base_of s + 1048576) 0 (omega arith)) refl

first_begins : (s : Settings) (tables_end : ℕ) → (loaded_by nothing (Some (first_load s tables_end))).at ≤ tables_end
unfolding first_load readable
first_begins s tables_end = omega arith

nothing_low : (s : Settings) (tables_end : ℕ) (b : Bool) (d : PlacedSection) → (file_window (shown b (first_load s tables_end) (second_load s tables_end) (dynamic_segment d)) nothing).at ≤ tables_end
unfolding file_window
nothing_low s tables_end true d = elim (cases_Bool (loads_byte 0 (first_load s tables_end))) [
  | inl hit ↦ rw hit (first_begins s tables_end)
  | inr miss ↦ rw (miss, second_not s tables_end, dynamic_misses d 0) (omega arith)
]
nothing_low s tables_end false d = elim (cases_Bool (loads_byte 0 (first_load s tables_end))) [
  | inl hit ↦ rw hit (first_begins s tables_end)
  | inr miss ↦ rw (miss, dynamic_misses d 0) (omega arith)
]

abbrev IsLow : ℕ → Window → Type 0
IsLow n w = w.at + w.size ≤ n

low_if : (p : LayoutPlan) (ss : List Segment) (tables_end : ℕ) (role : Role) (b : Bool) (e : Extent) → (file_window ss nothing).at ≤ tables_end → (b ≡ true → IsGood p ss tables_end (place_in role e)) → IsLow tables_end (file_window ss (memory_if b e))
low_if p ss tables_end role true e low good = subst (IsLow tables_end) (sym (good refl).window) (good refl).within
low_if p ss tables_end role false e low good = omega (arith, low, nothing_small ss)

low_by : (ss : List Segment) (n : ℕ) (v w : Window) → v ≡ w → IsLow n (file_window ss w) → IsLow n (file_window ss v)
low_by ss n v w e low = subst (λ (u : Window). IsLow n (file_window ss u)) (sym e) low

windows_low : (r : Recipe) (t : Tables) (e : Extents) → IsPlain r → t.places ≡ chosen (rows_of r e) → (file_window (planned_segments (plan_of r) t) nothing).at ≤ end_of t → (bytes : List ℕ) → TablesAreTaken r bytes t e
    → AllIn (end_of t) (link_windows (planned_header (plan_of r) t) (planned_segments (plan_of r) t) (planned_sections (plan_of r) t) (planned_tags (plan_of r) (before_dynamic r e)))
unfolding link_windows tables_memory
windows_low r t e plain shape low bytes taken =
    let p : LayoutPlan = plan_of r in
    let n : ℕ = end_of t in
    let ss : List Segment = planned_segments p t in
    let sections : List Section = planned_sections p t in
    let tags : List Tag = planned_tags p (before_dynamic r e) in
    let told : TellsPlaces r e sections tags = taken.told in
    let good : AreGood r ss n e = taken.good in
    let c : Bool = list_any is_other r.relocations in
    let j : Bool = list_any is_jump_slot r.relocations in
    let none : IsLow n (file_window ss nothing) = omega (arith, low, nothing_small ss) in
    let absent : (number : ℕ) → value_of number tags ≡ None → IsLow n (file_window ss (section_memory number tags sections)) = λ number x. low_by ss n (section_memory number tags sections) nothing (no_section number tags sections x) none in
    let symtabs : symtab_windows sections ≡ [] = ap symtab_windows (sections_are r t e plain shape) ∙ no_symtabs p (all_places r e t) in
    let past : 1024 ≤ n = omega arith in (
      past_header n past,
      (
        omega (arith, past, (segments_low p t).0, (segments_low p t).1),
        (
          low_by ss n (dynamic_memory ss) (memory_at e.dynamic) (dynamic_is r t e plain shape good.dynamic.some) (low_if p ss n DynamicTable true e.dynamic low (λ _. good.dynamic)),
          (
            low_by ss n (symbols_memory tags sections) (memory_at e.symbols) told.symbols (low_if p ss n Dynsym true e.symbols low (λ _. good.symbols)),
            (
              low_by ss n (strings_memory tags) (memory_at e.strings) told.strings (low_if p ss n Dynstr true e.strings low (λ _. good.strings)),
              (
                low_by ss n (rela_memory tags) (memory_if c e.others) told.others (low_if p ss n RelaDyn c e.others low good.others),
                (
                  low_by ss n (jmprel_memory tags) (memory_if j e.slots) told.slots (low_if p ss n RelaPlt j e.slots low good.slots),
                  (
                    low_by ss n (section_memory 4 tags sections) (memory_if r.settings.hashes.sysv e.hash) told.hash (low_if p ss n Hash r.settings.hashes.sysv e.hash low good.hash),
                    (
                      low_by ss n (section_memory 0x6ffffef5 tags sections) (memory_if r.settings.hashes.gnu e.gnu_hash) told.gnu_hash (low_if p ss n GnuHash r.settings.hashes.gnu e.gnu_hash low good.gnu_hash),
                      (
                        absent 0x6ffffff0 taken.values.versym,
                        (
                          absent 0x6ffffffc taken.values.verdef,
                          (
                            absent 0x6ffffffe taken.values.verneed,
                            (low_by ss n (relr_memory tags) nothing told.packed none, subst (AllIn n) (sym symtabs) tt),
                          ),
                        ),
                      ),
                    ),
                  ),
                ),
              ),
            ),
          ),
        ),
      ),
    )
  where
    past_header : (n : ℕ) → 1024 ≤ n → IsLow n header_window
    past_header n le = omega (arith, le)

-- ---- clauses 20 to 31

rest_taken : (bytes : List ℕ) (h : Header) (ss : List Segment) (tags : List Tag) (symbols : List read.Symbol) (rs : List Reloc) → has_ifunc symbols ≡ false → misplaced_copy (h.kind == 2) rs ≡ false → length bytes ≤ 16777216
    → value_of 0x6ffffffb tags ≡ None → segment_of_kind 3 ss ≡ None → check_rest bytes h ss tags symbols rs ≡ Ok tt
unfolding check_rest
rest_taken bytes h ss tags symbols rs functions copies small flags interp = rw (functions, copies, small_enough bytes small, no_pie h ss tags flags interp) refl

symbols_taken : (r : Recipe) (program : Bool) (ss : List Segment) → IsPlain r → IsModest r → length (plan_of r).symbols + 1 < 2 ^ 32 → base_not_zero program ss ≡ false → check_symbols program ss (planned_hashes r) None (planned_symbols (plan_of r)) ≡ Ok tt
unfolding check_symbols
symbols_taken r program ss plain m few_all base = rw (base, hashes_complete r plain m few_all, no_duplicates r program plain m) refl

-- a file whose tables are at these places
pub record IsBuilt (r : Recipe) (bytes : List ℕ) (t : Tables) : Type 0 where
  pub plain : IsPlain r
  pub modest : IsModest r
  pub there : tables (plan_of r) ≡ Ok t
  pub size : length bytes ≤ 16777216
  pub here : IsPlaced r bytes t

checked_built : (r : Recipe) (bytes : List ℕ) (t : Tables) (built : IsBuilt r bytes t)
    → check bytes (planned_heads (plan_of r) t) (planned_tags (plan_of r) (before_dynamic r built.here.shape.extents)) (planned_linking r) (planned_layout r t (before_dynamic r built.here.shape.extents)) ≡ Ok tt
unfolding check planned_heads planned_linking planned_layout
checked_built r bytes t built =
    let p : LayoutPlan = plan_of r in
    let e : Extents = built.here.shape.extents in
    let shape : t.places ≡ chosen (rows_of r e) = built.here.shape.is in
    let taken : TablesAreTaken r bytes t e = are_taken r bytes t built.plain built.there built.here in
    let ss : List Segment = planned_segments p t in
    let h : Header = planned_header p t in
    let d : PlacedSection = place_of t.places (codes ".dynamic") in
    let some : 0 < d.size = subst (λ (x : PlacedSection). 0 < x.size) (sym (ap (λ (l : List PlacedSection). place_of l (codes ".dynamic")) shape ∙ named_dynamic r e)) taken.good.dynamic.some in
    let shown_so : ss ≡ shown (has_data p.settings) (first_load p.settings (end_of t)) (second_load p.settings (end_of t)) (dynamic_segment d) = segments_shown p t (plain_settings r built.plain) (there_is d some) in
    let few_all : length p.symbols + 1 < 2 ^ 32 = few_symbols r ss (end_of t) e built.here.fits taken.good in
    let low : (file_window ss nothing).at ≤ end_of t = subst (λ (l : List Segment). (file_window l nothing).at ≤ end_of t) (sym shown_so) (nothing_low p.settings (end_of t) (has_data p.settings) d) in
    let windows = windows_low r t e built.plain shape low bytes taken in
    let relocs_so : AreTaken p t (link_windows h ss (planned_sections p t) (planned_tags p (before_dynamic r e))) = relocs_taken r t (link_windows h ss (planned_sections p t) (planned_tags p (before_dynamic r e))) built.plain built.modest built.there few_all windows in
    let base : base_not_zero (h.kind == 2) ss ≡ false =
    ap (λ (k : ℕ). base_not_zero (k == 2) ss) (kind_is p t)
    ∙ ap (base_not_zero (type_of p.settings == 2)) shown_so
    ∙ base_in_page p.settings (has_data p.settings) (end_of t) d in
    let interp : segment_of_kind 3 ss ≡ None = ap (segment_of_kind 3) shown_so ∙ no_interp (has_data p.settings) p.settings (end_of t) d in
    rw (
      symbols_taken r (h.kind == 2) ss built.plain built.modest few_all base,
      relocs_so.places,
      rest_taken bytes h ss (planned_tags p (before_dynamic r e)) (planned_symbols p) (planned_relocs p) relocs_so.functions relocs_so.copies built.size (no_flag_tag p (before_dynamic r e) (plain_settings r built.plain)) interp,
    )
    refl

-- ---- 9 to 31

object_built : (r : Recipe) (bytes : List ℕ) (t : Tables) (built : IsBuilt r bytes t) → dynamic_object bytes (planned_heads (plan_of r) t) (planned_dynamic (plan_of r) (before_dynamic r built.here.shape.extents)) ≡ Ok (planned_object r t (before_dynamic r built.here.shape.extents))
unfolding planned_heads planned_dynamic planned_object checked
object_built r bytes t built =
    let p : LayoutPlan = plan_of r in
    let e : Extents = built.here.shape.extents in
    let taken : TablesAreTaken r bytes t e = are_taken r bytes t built.plain built.there built.here in
    let ss : List Segment = planned_segments p t in
    let sections : List Section = planned_sections p t in
    let tags : List Tag = planned_tags p (before_dynamic r e) in
    let held : AreHeld r bytes ss e = held_by_name r bytes t built.here in
    let few_all : length p.symbols + 1 < 2 ^ 32 = few_symbols r ss (end_of t) e built.here.fits taken.good in
    let names : linking bytes (planned_heads p t) tags ≡ Ok (planned_linking r) =
    linking_read r bytes (planned_heads p t) (before_dynamic r e) built.plain built.modest (few_strings r ss (end_of t) e built.here.fits taken.good)
    (ap (loaded bytes ss) taken.told.symbols ∙ held.symbols) (ap (loaded bytes ss) taken.told.strings ∙ held.strings) taken.values.versym taken.values.verdef taken.values.verneed in
    dynamic_object_is bytes (planned_heads p t) (planned_dynamic p (before_dynamic r e)) tt (planned_linking r) (planned_layout r t (before_dynamic r e)) taken.taken names (sym (layout_is r bytes t e built.modest few_all held taken))
    ∙ (rw (checked_built r bytes t built) refl)

parts_built : (r : Recipe) (bytes : List ℕ) (t : Tables) (built : IsBuilt r bytes t) → elf.is_static_file bytes (planned_header (plan_of r) t) ≡ false → parts bytes (planned_heads (plan_of r) t) ≡ Ok (planned_object r t (before_dynamic r built.here.shape.extents))
unfolding parts planned_heads
parts_built r bytes t built linked =
    let p : LayoutPlan = plan_of r in
    let e : Extents = built.here.shape.extents in
    let taken : TablesAreTaken r bytes t e = are_taken r bytes t built.plain built.there built.here in
    rw (linked, dynamic_ok r bytes t e built.plain built.here.fits built.here.shape.is taken.good (held_by_name r bytes t built.here)) (object_built r bytes t built)

-- ---- the file

rows_within : (p : LayoutPlan) (t : Tables) (n : ℕ) → 64 + 56 * length (planned_segments p t) ≤ n → (planned_header p t).phoff + 56 * (planned_header p t).phnum ≤ n
unfolding planned_header header_of
rows_within p t n le = le

dynamic_seen : (r : Recipe) (bytes : List ℕ) (t : Tables) → IsPlain r → tables (plan_of r) ≡ Ok t → bytes ≡ file_by (plan_of r) t → IsHeaded (plan_of r) t bytes → elf.has_dynamic bytes (planned_header (plan_of r) t) ≡ true
dynamic_seen r bytes t plain there is headed =
    let p : LayoutPlan = plan_of r in
    let within : 64 + 56 * length (planned_segments p t) ≤ length bytes = subst (λ (l : List ℕ). 64 + 56 * length (planned_segments p t) ≤ length l) (sym is) (heads_within p t) in
    seen bytes (planned_header p t) (rows_within p t (length bytes) within) (ap (list_any is_dynamic) headed.segments ∙ dynamic_planned r t plain there)

linked_file : (bytes : List ℕ) (h : Header) → elf.has_dynamic bytes h ≡ true → elf.is_static_file bytes h ≡ false
unfolding elf.is_static_file
linked_file bytes h there = second_false (h.kind == 2) (not (elf.has_dynamic bytes h)) (ap (λ (b : Bool). not b) there)

heads_with : Header → List Segment → List Section → Headers
heads_with h ss sections = record { header = h; segments = ss; sections = sections }

heads_are : (p : LayoutPlan) (t : Tables) (bytes : List ℕ) → IsHeaded p t bytes → headers bytes (planned_header p t) ≡ planned_heads p t
unfolding headers planned_heads heads_with
heads_are p t bytes headed =
    ap (λ (ss : List Segment). heads_with (planned_header p t) ss (sections bytes (planned_header p t))) headed.segments
    ∙ ap (λ (ss : List Section). heads_with (planned_header p t) (planned_segments p t) ss) headed.sections

file_small : (r : Recipe) (t : Tables) → IsPlain r → tables (plan_of r) ≡ Ok t → file_end (plan_of r) (end_of t) (names_of (plan_of r)) ≤ 16777216 → length (file_by (plan_of r) t) ≤ 16777216
file_small r t plain there fits = omega (arith, file_long r t plain there, fits)

reads_by : (bytes : List ℕ) (h : Header) → elf.read bytes ≡ Ok h → reads bytes ≡ parts bytes (headers bytes h)
unfolding reads
reads_by bytes h e = rw e refl

pub plain_accepted : PlainIsAccepted
plain_accepted r bytes plain m made_so =
    let p : LayoutPlan = plan_of r in
    let file = made_is p bytes made_so in
    let t : Tables = file.0 in
    let headed_at = heads_are_read r bytes plain made_so in
    let read_at = files_headed r bytes plain made_so in
    let placed_at = placed r bytes plain made_so in
    let headed : IsHeaded p t bytes = subst (λ (u : Tables). IsHeaded p u bytes) (ok_same headed_at.0 t (sym headed_at.1 ∙ file.1)) headed_at.2 in
    let read_so : elf.read bytes ≡ Ok (planned_header p t) = subst (λ (u : Tables). elf.read bytes ≡ Ok (planned_header p u)) (ok_same read_at.0 t (sym read_at.1 ∙ file.1)) read_at.2 in
    let here : IsPlaced r bytes t = subst (λ (u : Tables). IsPlaced r bytes u) (ok_same placed_at.0 t (sym placed_at.1 ∙ file.1)) placed_at.2 in
    let small : length bytes ≤ 16777216 = subst (λ (l : List ℕ). length l ≤ 16777216) (sym file.2) (file_small r t plain file.1 file.3) in
    let built : IsBuilt r bytes t = record { plain = plain; modest = m; there = file.1; size = small; here = here } in
    let linked : elf.is_static_file bytes (planned_header p t) ≡ false = linked_file bytes (planned_header p t) (dynamic_seen r bytes t plain file.1 file.2 headed) in (
      t,
      file.1,
      record {
        extents = here.shape.extents;
        places = here.shape.is ∙ dynamic_last r here.shape.extents;
        reads = reads_by bytes (planned_header p t) read_so ∙ ap (parts bytes) (heads_are p t bytes headed) ∙ parts_built r bytes t built linked;
      },
    )
