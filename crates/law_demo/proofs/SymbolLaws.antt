-- The symbol table of a plain recipe is read as its symbols.
use Rattle.std.proofs.Common.{◌≡◌, ℕ, ◌^◌, ◌<◌, ◌≤◌, Bool, true, List, [], ◌∷◌, length, map, Ok, refl, sym, ap, subst, ◌∙◌, arith, inl, inr}
use Rattle.std.specs.Prelude.{◌==◌, ◌||◌, nat_lt, codes, filter}
use Rattle.std.specs.List.{AllByRecursion, flat_map, range_with_len}
use Rattle.std.proofs.lemmas.Bool.{cases_Bool}
use Rattle.pl_base.specs.Strings.{string_at}
use Rattle.pl_base.proofs.SumLaws.{plus_below}
use Rattle.pl_sym.specs.Table as table
use Rattle.pl_sym.specs.declared.symbol.Symbol as read
use Rattle.pl_build.specs.declared.line.SymbolLine.{SymbolLine}
use Rattle.pl_build.specs.declared.layout_plan.LayoutPlan.{LayoutPlan}
use Rattle.pl_build.specs.declared.recipe.Recipe.{Recipe}
use Rattle.pl_build.specs.declared.recipe.Settings.{Settings}
use Rattle.pl_build.specs.declared.string_table.StringTable.{StringTable}
use Rattle.pl_build.specs.declared.symbol_table.SymbolEntry.{SymbolEntry}
use Rattle.pl_build.specs.LayoutPlan.{plan_of, data_address}
use Rattle.pl_build.specs.StringTable.{start, symbol_added, symbols_added, texts_added}
use Rattle.pl_build.specs.SymbolTable.{entry_bytes, has_no_address, section_of, value_of, entry_of, null_entry, symbol_table}
use Rattle.pl_build.specs.Symbols.{ordered, is_in, is_undefined}
use Rattle.law_demo.specs.Rows.{Named, FitsEntry, IsFound, symbol_of}
use Rattle.law_demo.specs.Symbols.{IsSound, planned_symbol, null_symbol, SymbolTableIsRead}
use Rattle.law_demo.proofs.HeadLaws.{all_append, few_roles, index_small}
use Rattle.law_demo.proofs.RoleLaws.{plain_strings, plain_texts}
use Rattle.law_demo.proofs.RowLaws.{symbols_read}
use Rattle.law_demo.proofs.TextLaws.{AreTexts, is_old, kept_text, new_text, text_found, text_within, begins_zero}

-- ---- the order keeps what holds of each symbol

all_filter : {X : Type 0} (P : X → Type 0) (q : X → Bool) (xs : List X) → AllByRecursion P xs → AllByRecursion P (filter q xs)
all_filter P q [] all = tt
all_filter P q (x ∷ xs) all = elim (cases_Bool (q x)) [
  | inl hit ↦ rw hit (all.0, all_filter P q xs all.1)
  | inr miss ↦ rw miss (all_filter P q xs all.1)
]

all_flat_map : {X A : Type 0} (P : X → Type 0) (f : A → List X) (ys : List A) → ((a : A) → AllByRecursion P (f a)) → AllByRecursion P (flat_map f ys)
all_flat_map P f [] each = tt
all_flat_map P f (a ∷ ys) each = all_append P (f a) (flat_map f ys) (each a) (all_flat_map P f ys each)

all_ordered : (P : SymbolLine → Type 0) (s : Settings) (symbols : List SymbolLine) → AllByRecursion P symbols → AllByRecursion P (ordered s symbols)
unfolding ordered
all_ordered P s symbols all =
    all_append P (filter is_undefined symbols) (flat_map (λ b. filter (is_in s b) symbols) (range_with_len 0 s.buckets)) (all_filter P is_undefined symbols all)
    (all_flat_map P (λ b. filter (is_in s b) symbols) (range_with_len 0 s.buckets) (λ b. all_filter P (is_in s b) symbols all))

-- ---- each name is in the strings

kept_symbols : (s : StringTable) (symbols : List SymbolLine) (text : List ℕ) → is_old s text ≡ true → is_old (symbols_added s symbols) text ≡ true
unfolding symbols_added
kept_symbols s [] text h = h
kept_symbols s (x ∷ symbols) text h = kept_symbols (symbol_added s x) symbols text (kept_text s x.name text h)

symbols_old : (s : StringTable) (symbols : List SymbolLine) → AllByRecursion (λ x. is_old (symbols_added s symbols) x.name ≡ true) symbols
unfolding symbols_added
symbols_old s [] = tt
symbols_old s (x ∷ symbols) = (kept_symbols (symbol_added s x) symbols x.name (new_text s x.name), symbols_old (symbol_added s x) symbols)

-- ---- the fields

section_small : (p : LayoutPlan) (s : SymbolLine) → length p.roles ≤ 11 → section_of p s < 2 ^ 16
unfolding section_of
section_small p s few = elim (cases_Bool s.defined) [
  | inr undefined ↦ rw undefined (omega arith)
  | inl defined ↦ elim (cases_Bool (s.kind == 0)) [
    | inl absolute ↦ rw (defined, absolute) (omega arith)
    | inr other ↦ elim (cases_Bool (s.kind == 6 || nat_lt s.offset p.settings.data_size)) [
      | inl data_section ↦ rw (defined, other, data_section) (omega (arith, few, index_small p.roles (codes ".data")))
      | inr zeros ↦ rw (defined, other, zeros) (omega (arith, few, index_small p.roles (codes ".bss")))
    ]
  ]
]

value_small : (p : LayoutPlan) (s : SymbolLine) → s.offset < 2 ^ 64 → value_of p s < 2 ^ 64
unfolding value_of
value_small p s fits = elim (cases_Bool s.placed) [
  | inr nowhere ↦ rw nowhere (omega arith)
  | inl placed ↦ elim (cases_Bool (has_no_address s)) [
    | inl number ↦ rw (placed, number) fits
    | inr address ↦ rw (placed, address) (plus_below (data_address p.settings) s.offset)
  ]
]

entry_fits : (p : LayoutPlan) (s : SymbolLine) → AreTexts p.strings → length p.strings.bytes < 2 ^ 32 → length p.roles ≤ 11 → IsSound s → FitsEntry (entry_of p s)
unfolding entry_of
entry_fits p s texts small few sound = record {
  name = omega (arith, text_within p.strings s.name texts, small);
  bind = sound.bind;
  kind = sound.kind;
  visibility = sound.visibility;
  section = section_small p s few;
  value = value_small p s sound.offset;
  size = sound.size;
}

-- ---- the rows

row : LayoutPlan → SymbolLine → Named
row p s = record { name = s.name; entry = entry_of p s }

null_row : Named
null_row = record { name = []; entry = null_entry }

row_found : (p : LayoutPlan) (s : SymbolLine) → AreTexts p.strings → length p.strings.bytes < 2 ^ 32 → length p.roles ≤ 11 → IsSound s → is_old p.strings s.name ≡ true → IsFound p.strings.bytes (row p s)
unfolding row entry_of
row_found p s texts small few sound old = record { name = text_found p.strings s.name texts sound.name old; fits = entry_fits p s texts small few sound }

rows_found : (p : LayoutPlan) (symbols : List SymbolLine) → AreTexts p.strings → length p.strings.bytes < 2 ^ 32 → length p.roles ≤ 11 → AllByRecursion IsSound symbols → AllByRecursion (λ x. is_old p.strings x.name ≡ true) symbols
    → AllByRecursion (IsFound p.strings.bytes) (map (row p) symbols)
rows_found p [] texts small few sound old = tt
rows_found p (s ∷ symbols) texts small few sound old = (row_found p s texts small few sound.0 old.0, rows_found p symbols texts small few sound.1 old.1)

null_found : (strings : StringTable) → AreTexts strings → IsFound strings.bytes null_row
unfolding null_row string_at
null_found strings texts = record {
  name = begins_zero strings.bytes texts.begins;
  fits = record { name = omega arith; bind = omega arith; kind = omega arith; visibility = omega arith; section = omega arith; value = omega arith; size = omega arith };
}

entries_are : (p : LayoutPlan) (symbols : List SymbolLine) → map (λ n. n.entry) (map (row p) symbols) ≡ map (entry_of p) symbols
unfolding row
entries_are p [] = refl
entries_are p (s ∷ symbols) = ap (λ (es : List SymbolEntry). entry_of p s ∷ es) (entries_are p symbols)

symbols_are : (p : LayoutPlan) (symbols : List SymbolLine) → map symbol_of (map (row p) symbols) ≡ map (planned_symbol p) symbols
unfolding row symbol_of entry_of planned_symbol
symbols_are p [] = refl
symbols_are p (s ∷ symbols) = ap (λ (ss : List read.Symbol). planned_symbol p s ∷ ss) (symbols_are p symbols)

ordered_symbols : (r : Recipe) → (plan_of r).symbols ≡ ordered r.settings r.symbols
unfolding plan_of
ordered_symbols r = refl

pub table_read : SymbolTableIsRead
unfolding symbol_table null_row symbol_of
table_read r plain sound small =
    let p : LayoutPlan = plan_of r in
    let texts : AreTexts p.strings = plain_texts r plain in
    let few = few_roles r plain in
    let all : AllByRecursion IsSound p.symbols = subst (AllByRecursion IsSound) (sym (ordered_symbols r)) (all_ordered IsSound r.settings r.symbols sound) in
    let old : AllByRecursion (λ x. is_old p.strings x.name ≡ true) p.symbols =
    subst (λ (s : StringTable). AllByRecursion (λ x. is_old s x.name ≡ true) p.symbols) (sym (plain_strings r plain)) (symbols_old (texts_added start r.needs) p.symbols) in
    let rows : List Named = null_row ∷ map (row p) p.symbols in
    let found : AllByRecursion (IsFound p.strings.bytes) rows = (null_found p.strings texts, rows_found p p.symbols texts small few all old) in
    ap (λ (es : List SymbolEntry). table.symbols (flat_map entry_bytes (null_entry ∷ es)) p.strings.bytes) (sym (entries_are p p.symbols))
    ∙ symbols_read p.strings.bytes rows found
    ∙ ap (λ (ss : List read.Symbol). Ok (null_symbol ∷ ss)) (symbols_are p p.symbols)
