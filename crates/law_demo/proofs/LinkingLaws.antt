-- The names of a plain and modest recipe's file: clauses 15 to 18.
use Rattle.std.proofs.Common.{◌≡◌, ℕ, ◌^◌, ◌<◌, Bool, true, false, List, [], ◌∷◌, ◌++◌, length, map, None, Ok, refl, sym, ap, subst, ◌∙◌, arith, inl, inr}
use Rattle.std.specs.Prelude.{not, ◌==◌, ◌&&◌, filter}
use Rattle.std.specs.List.{AllByRecursion, list_all, list_any}
use Rattle.std.proofs.lemmas.Bool.{cases_Bool, and_parts, false≢true, or_parts, or_from}
use Rattle.std.proofs.lemmas.Bool.Decides.{nat_tests}
use Rattle.std.proofs.lemmas.List.{append-nil}
use Rattle.std.proofs.lemmas.List.Elements.{filter-append}
use Rattle.pl_base.specs.Answers.{because}
use Rattle.pl_base.specs.Each.{each}
use Rattle.pl_base.specs.Names.{is_valid_name, is_name_byte, is_own_name, is_dots, has_name_length}
use Rattle.pl_base.specs.Strings.{is_zero}
use Rattle.pl_dyn.specs.Read.{has_number, value_of}
use Rattle.pl_dyn.specs.declared.tags.Tag.{Tag}
use Rattle.pl_elf.specs.declared.section.Section.{Section}
use Rattle.pl_elf.specs.declared.segment.Segment.{Segment}
use Rattle.pl_object.specs.FilePart.{loaded}
use Rattle.pl_object.specs.Names.{needed_name, needed, strings, symbols, bad_version_tags, known_versions, versions}
use Rattle.pl_object.specs.Refusals.{of_symbols}
use Rattle.pl_object.specs.Reads.{linking}
use Rattle.pl_object.specs.Tables.{symbols_memory, strings_memory}
use Rattle.pl_object.specs.declared.headers.Headers.{Headers}
use Rattle.pl_sym.specs.Table as table
use Rattle.pl_sym.specs.declared.symbol.Symbol as read
use Rattle.pl_build.specs.declared.line.SymbolLine.{SymbolLine}
use Rattle.pl_build.specs.declared.layout_plan.LayoutPlan.{LayoutPlan}
use Rattle.pl_build.specs.declared.recipe.Recipe.{Recipe}
use Rattle.pl_build.specs.declared.roles.PlacedSection.{PlacedSection}
use Rattle.pl_build.specs.declared.string_table.StringTable.{StringTable}
use Rattle.pl_build.specs.Choices.{chosen}
use Rattle.pl_build.specs.Dynamic.{tag, needed_tags}
use Rattle.pl_build.specs.LayoutPlan.{plan_of}
use Rattle.pl_build.specs.StringTable.{start, text_added, text_at, texts_added, symbol_added, symbols_added}
use Rattle.pl_build.specs.SymbolTable.{symbol_table}
use Rattle.law_demo.specs.Accepted.{planned_linking}
use Rattle.law_demo.specs.Modest.{IsModestSymbol, IsValidName, IsModest}
use Rattle.law_demo.specs.Plain.{IsPlain}
use Rattle.law_demo.specs.Relocs.{planned_symbols}
use Rattle.law_demo.specs.Symbols.{IsSound}
use Rattle.law_demo.specs.Tags.{planned_tags}
use Rattle.law_demo.proofs.RoleLaws.{plain_strings, plain_texts}
use Rattle.law_demo.proofs.SymbolLaws.{table_read}
use Rattle.law_demo.proofs.TextLaws.{AreTexts, is_old, kept_text, new_text, text_found}
use Rattle.law_demo.proofs.ValueLaws.{planned_rows, tags_are}

-- ---- the tags of needed names

needed_kept : (s : StringTable) (names : List (List ℕ)) → filter (has_number 1) (map (λ name. tag 1 (text_at s name)) names) ≡ map (λ name. tag 1 (text_at s name)) names
needed_kept s [] = refl
needed_kept s (name ∷ names) = ap (λ (ts : List Tag). tag 1 (text_at s name) ∷ ts) (needed_kept s names)

abbrev is_needed : Bool × Tag → Bool
is_needed c = c.1.number == 1

rows_none : (cs : List (Bool × Tag)) → list_any is_needed cs ≡ false → filter (has_number 1) (chosen cs) ≡ []
unfolding chosen
rows_none [] none = refl
rows_none (c ∷ cs) none =
    let parts = or_parts (is_needed c) (list_any is_needed cs) none in
    elim (cases_Bool c.0) [
      | inl there ↦ rw (there, parts.0) (rows_none cs parts.1)
      | inr missing ↦ rw missing (rows_none cs parts.1)
    ]

needed_filtered : (p : LayoutPlan) (places : List PlacedSection) → filter (has_number 1) (planned_tags p places) ≡ needed_tags p
unfolding needed_tags
needed_filtered p places =
    ap (filter (has_number 1)) (tags_are p places)
    ∙ filter-append (has_number 1) (needed_tags p) (chosen (planned_rows p places))
    ∙ ap (λ (ts : List Tag). ts ++ filter (has_number 1) (chosen (planned_rows p places))) (needed_kept p.strings p.needed)
    ∙ ap (λ (ts : List Tag). needed_tags p ++ ts) (rows_none (planned_rows p places) refl)
    ∙ append-nil (needed_tags p)

-- ---- a valid name has no byte 0

bytes_no_zero : (name : List ℕ) → list_all is_name_byte name ≡ true → list_any is_zero name ≡ false
unfolding is_name_byte
bytes_no_zero [] all = refl
bytes_no_zero (b ∷ name) all =
    let parts = and_parts (is_name_byte b) (list_all is_name_byte name) all in
    elim (cases_Bool (b == 0)) [
      | inl zero ↦ absurd (false≢true (subst (λ (c : ℕ). is_name_byte c ≡ true) (same_from b 0 zero) parts.0))
      | inr some ↦ or_from (b == 0) (list_any is_zero name) some (bytes_no_zero name parts.1)
    ]
  where
    same_from : (a b : ℕ) → (a == b) ≡ true → a ≡ b
    same_from a b h = grind (arith, nat_tests)

pub valid_no_zero : (name : List ℕ) → is_valid_name name ≡ true → list_any is_zero name ≡ false
unfolding is_valid_name
valid_no_zero name valid =
    let p1 = and_parts (has_name_length name && list_all is_name_byte name && not (is_own_name name)) (not (is_dots name)) valid in
    let p2 = and_parts (has_name_length name && list_all is_name_byte name) (not (is_own_name name)) p1.0 in
    let p3 = and_parts (has_name_length name) (list_all is_name_byte name) p2.0 in
    bytes_no_zero name p3.1

-- ---- each needed name is in the strings

kept_names : (s : StringTable) (names : List (List ℕ)) (text : List ℕ) → is_old s text ≡ true → is_old (texts_added s names) text ≡ true
unfolding texts_added
kept_names s [] text h = h
kept_names s (name ∷ names) text h = kept_names (text_added s name) names text (kept_text s name text h)

names_old : (s : StringTable) (names : List (List ℕ)) → AllByRecursion (λ name. is_old (texts_added s names) name ≡ true) names
unfolding texts_added
names_old s [] = tt
names_old s (name ∷ names) = (kept_names (text_added s name) names name (new_text s name), names_old (text_added s name) names)

kept_symbols : (s : StringTable) (symbols : List SymbolLine) (text : List ℕ) → is_old s text ≡ true → is_old (symbols_added s symbols) text ≡ true
unfolding symbols_added
kept_symbols s [] text h = h
kept_symbols s (x ∷ symbols) text h = kept_symbols (symbol_added s x) symbols text (kept_text s x.name text h)

all_kept : (s : StringTable) (symbols : List SymbolLine) (names : List (List ℕ)) → AllByRecursion (λ name. is_old s name ≡ true) names → AllByRecursion (λ name. is_old (symbols_added s symbols) name ≡ true) names
all_kept s symbols [] all = tt
all_kept s symbols (name ∷ names) all = (kept_symbols s symbols name all.0, all_kept s symbols names all.1)

name_read : (s : StringTable) (name : List ℕ) → AreTexts s → is_valid_name name ≡ true → is_old s name ≡ true → needed_name s.bytes (tag 1 (text_at s name)) ≡ Ok name
unfolding needed_name
name_read s name texts valid old = rw (text_found s name texts (valid_no_zero name valid) old, valid) refl

names_read : (s : StringTable) (names : List (List ℕ)) → AreTexts s → AllByRecursion IsValidName names → AllByRecursion (λ name. is_old s name ≡ true) names → each (needed_name s.bytes) (map (λ name. tag 1 (text_at s name)) names) ≡ Ok names
unfolding each
names_read s [] texts valid old = refl
names_read s (name ∷ names) texts valid old = rw (name_read s name texts valid.0 old.0, names_read s names texts valid.1 old.1) refl

plan_needed : (r : Recipe) → (plan_of r).needed ≡ r.needs
unfolding plan_of
plan_needed r = refl

needed_read : (r : Recipe) (places : List PlacedSection) → IsPlain r → IsModest r → needed (planned_tags (plan_of r) places) (plan_of r).strings.bytes ≡ Ok r.needs
unfolding needed needed_tags
needed_read r places plain m =
    let p : LayoutPlan = plan_of r in
    let s : StringTable = p.strings in
    let old : AllByRecursion (λ name. is_old s name ≡ true) r.needs =
    subst (λ (u : StringTable). AllByRecursion (λ name. is_old u name ≡ true) r.needs) (sym (plain_strings r plain)) (all_kept (texts_added start r.needs) p.symbols r.needs (names_old start r.needs)) in
    ap (each (needed_name s.bytes)) (needed_filtered p places)
    ∙ ap (λ (names : List (List ℕ)). each (needed_name s.bytes) (map (λ name. tag 1 (text_at s name)) names)) (plan_needed r)
    ∙ names_read s r.needs (plain_texts r plain) m.needs old

-- ---- the symbols

sound_one : (r : Recipe) (x : SymbolLine) → IsPlain r → IsModestSymbol r.settings x → IsSound x
sound_one r x plain m = elim m.form [
  | inl own ↦
      let small : x.kind < 16 = elim own.kind [
        | inl object ↦ omega (arith, object)
        | inr function ↦ omega (arith, function)
      ] in
      record {
        name = valid_no_zero x.name m.name;
        bind = omega (arith, own.bind);
        kind = small;
        visibility = omega (arith, m.visibility);
        offset = omega (arith, own.within, plain.settings.few_data, plain.settings.few_bss);
        size = omega (arith, own.within, plain.settings.few_data, plain.settings.few_bss);
      }
  | inr weak ↦ record {
    name = valid_no_zero x.name m.name;
    bind = omega (arith, weak.bind);
    kind = omega (arith, weak.kind);
    visibility = omega (arith, m.visibility);
    offset = omega (arith, weak.offset);
    size = omega (arith, weak.size);
  }
]

sound_all : (r : Recipe) (symbols : List SymbolLine) → IsPlain r → AllByRecursion (IsModestSymbol r.settings) symbols → AllByRecursion IsSound symbols
sound_all r [] plain all = tt
sound_all r (x ∷ symbols) plain all = (sound_one r x plain all.0, sound_all r symbols plain all.1)

symbols_read : (r : Recipe) (bytes : List ℕ) (ss : List Segment) (sections : List Section) (tags : List Tag) → IsPlain r → IsModest r → length (plan_of r).strings.bytes < 2 ^ 32
    → loaded bytes ss (symbols_memory tags sections) ≡ symbol_table (plan_of r) → loaded bytes ss (strings_memory tags) ≡ (plan_of r).strings.bytes → symbols bytes ss sections tags ≡ Ok (planned_symbols (plan_of r))
unfolding symbols strings
symbols_read r bytes ss sections tags plain m small rows texts =
    ap (λ (l : List ℕ). because of_symbols (table.symbols l (loaded bytes ss (strings_memory tags)))) rows
    ∙ ap (λ (l : List ℕ). because of_symbols (table.symbols (symbol_table (plan_of r)) l)) texts
    ∙ ap (because of_symbols) (table_read r plain (sound_all r r.symbols plain m.symbols) small)

-- ---- no versions

no_versions : (bytes : List ℕ) (ss : List Segment) (sections : List Section) (tags : List Tag) (all : List read.Symbol) → value_of 0x6ffffff0 tags ≡ None → value_of 0x6ffffffc tags ≡ None → value_of 0x6ffffffe tags ≡ None → versions bytes ss sections tags all ≡ Ok None
unfolding versions bad_version_tags known_versions
no_versions bytes ss sections tags all words defined needs = rw (defined, needs, words) refl

-- ---- all of them

pub linking_read : (r : Recipe) (bytes : List ℕ) (f : Headers) (places : List PlacedSection) → IsPlain r → IsModest r → length (plan_of r).strings.bytes < 2 ^ 32
    → loaded bytes f.segments (symbols_memory (planned_tags (plan_of r) places) f.sections) ≡ symbol_table (plan_of r)
    → loaded bytes f.segments (strings_memory (planned_tags (plan_of r) places)) ≡ (plan_of r).strings.bytes
    → value_of 0x6ffffff0 (planned_tags (plan_of r) places) ≡ None → value_of 0x6ffffffc (planned_tags (plan_of r) places) ≡ None → value_of 0x6ffffffe (planned_tags (plan_of r) places) ≡ None
    → linking bytes f (planned_tags (plan_of r) places) ≡ Ok (planned_linking r)
unfolding linking planned_linking strings
linking_read r bytes f places plain m small rows texts words defined needs =
    let tags : List Tag = planned_tags (plan_of r) places in
    let names : needed tags (loaded bytes f.segments (strings_memory tags)) ≡ Ok r.needs = ap (needed tags) texts ∙ needed_read r places plain m in
    rw (names, symbols_read r bytes f.segments f.sections tags plain m small rows texts, no_versions bytes f.segments f.sections tags (planned_symbols (plan_of r)) words defined needs) refl
