-- The object of a plain and modest recipe is settled.
use Rattle.std.proofs.Common.{◌≡◌, ℕ, zero, suc, ◌+◌, ◌^◌, ◌<◌, ◌≤◌, Bool, true, false, List, [], ◌∷◌, ◌++◌, length, map, get_or, Option, Some, Ok, refl, sym, ap, subst, ◌∙◌, arith, inl, inr}
use Rattle.std.specs.Prelude.{◌⊎◌, ◌&&◌, ◌||◌, not, ◌==◌, nat_le, nat_lt, slice_get, filter, codes}
use Rattle.std.specs.List.{AllByRecursion, list_any}
use Rattle.std.specs.Str.{bytes_eq}
use Rattle.std.proofs.lemmas.Bool.{and_parts, cases_Bool, false≢true, or_cases, or_right}
use Rattle.std.proofs.lemmas.Bool.Decides.{nat_tests}
use Rattle.std.proofs.lemmas.List.{length-map}
use Rattle.std.proofs.lemmas.List.Sorted.{length_permutation}
use Rattle.std.proofs.lemmas.Slice.Eq.{bytes_eq-Decides}
use Rattle.pl_base.specs.Sums.{plus}
use Rattle.pl_base.proofs.SumLaws.{plus_small}
use Rattle.pl_elf.specs.declared.constants.TheConstants.{R_X86_64_COPY}
use Rattle.pl_elf.specs.declared.segment.Segment.{Segment}
use Rattle.pl_object.specs.Reads.{object}
use Rattle.pl_object.specs.declared.object.Object.{Object}
use Rattle.pl_object.specs.declared.reloc.Reloc.{Reloc}
use Rattle.pl_sym.specs.Definers.{has_plain_kind, has_value, is_canonical, is_definition, is_global, is_linkable, is_visible}
use Rattle.pl_sym.specs.Symbol.{is_absolute, is_in_section, is_local, is_tls, is_undefined}
use Rattle.pl_sym.specs.declared.symbol.Symbol as read
use Rattle.pl_ver.specs.Fields.{index_of as version_index}
use Rattle.pl_value.specs.Copies.{is_in_load}
use Rattle.pl_build.specs.declared.layout.Tables.{Tables}
use Rattle.pl_build.specs.declared.line.Relocation.{Relocation}
use Rattle.pl_build.specs.declared.line.SymbolLine.{SymbolLine}
use Rattle.pl_build.specs.declared.layout_plan.LayoutPlan.{LayoutPlan}
use Rattle.pl_build.specs.declared.recipe.Recipe.{Recipe}
use Rattle.pl_build.specs.declared.recipe.Settings.{Settings}
use Rattle.pl_build.specs.declared.roles.PlacedSection.{PlacedSection}
use Rattle.pl_build.specs.declared.roles.Role.{Role}
use Rattle.pl_build.specs.Choices.{chosen}
use Rattle.pl_build.specs.Dynamic.{place_of}
use Rattle.pl_build.specs.Layout.{end_of, tables}
use Rattle.pl_build.specs.LayoutPlan.{data_address, is_jump_slot, is_other, plan_of}
use Rattle.pl_build.specs.Relocations.{is_written_as, rela_of}
use Rattle.pl_build.specs.Roles.{index_of, section_name}
use Rattle.pl_build.specs.Segments.{dynamic_segment, first_load, has_data, second_load}
use Rattle.pl_build.specs.SymbolTable.{section_of, value_of}
use Rattle.pl_build.specs.Symbols.{ordered}
use Rattle.law_demo.specs.Accepted.{planned_heads, planned_layout, planned_linking, planned_object}
use Rattle.law_demo.specs.Modest.{WritesDataWord as ChangesWordOf, CopiesWord, IsModest, IsModestRelocation, IsModestSymbol, IsOwn, IsWeakReference, is_word_kind}
use Rattle.law_demo.specs.Plain.{ArePlain, IsPlain}
use Rattle.law_demo.specs.Planned.{planned_segments}
use Rattle.law_demo.specs.Relocs.{planned_relocs, planned_symbols, read_as}
use Rattle.law_demo.specs.Rows.{reloc_of}
use Rattle.law_demo.specs.Symbols.{null_symbol, planned_symbol}
use Rattle.law_demo.proofs.ClauseLaws.{shown}
use Rattle.law_demo.proofs.FoundLaws.{ordered_permutes}
use Rattle.law_demo.proofs.HeadLaws.{data_small, few_roles, index_small, plain_settings, sixteen}
use Rattle.law_demo.proofs.HeadedLaws.{IsTable, dynamic_there, found_place, laid_tables, segments_shown, there_is}
use Rattle.law_demo.proofs.RelocLaws.{IsThere, all_ordered, any_ordered, copied, copied_number, copied_size, nobody, number_small, plan_relocations, plan_symbols, position_there}
use Rattle.law_demo.proofs.RoleLaws.{plain_roles, roles_plain}
use Rattle.law_demo.specs.SetNames.{IsSpelled, copies_name, defines_name}
use Rattle.law_demo.specs.Described.{CopiesNamed, DescribedObjectsAreSettled, HasDefinition, IsDescribing}
use Rattle.law_demo.specs.Links.{ChangesWord, DefinesNothing, HasSettledSymbols, IsLoaded, IsNull, IsSettledSymbol, IsWordKind}

-- ---- lists

all_both : {X : Type 0} (P : X → Type 0) (xs ys : List X) → AllByRecursion P xs → AllByRecursion P ys → AllByRecursion P (xs ++ ys)
all_both P [] ys all more = more
all_both P (x ∷ xs) ys all more = (all.0, all_both P xs ys all.1 more)

all_kept : {X : Type 0} (P : X → Type 0) (q : X → Bool) (xs : List X) → AllByRecursion P xs → AllByRecursion P (filter q xs)
all_kept P q [] all = tt
all_kept P q (x ∷ xs) all = elim (cases_Bool (q x)) [
  | inl hit ↦ rw hit (all.0, all_kept P q xs all.1)
  | inr miss ↦ rw miss (all_kept P q xs all.1)
]

all_mapped : {X Y : Type 0} (P : X → Type 0) (Q : Y → Type 0) (f : X → Y) → ((x : X) → P x → Q (f x)) → (xs : List X) → AllByRecursion P xs → AllByRecursion Q (map f xs)
all_mapped P Q f each [] all = tt
all_mapped P Q f each (x ∷ xs) all = (each x all.0, all_mapped P Q f each xs all.1)

all_of : {X : Type 0} (P Q : X → Type 0) (xs : List X) → AllByRecursion P xs → AllByRecursion Q xs → AllByRecursion (λ x. P x × Q x) xs
all_of P Q [] all more = tt
all_of P Q (x ∷ xs) all more = ((all.0, more.0), all_of P Q xs all.1 more.1)

all_get : {X : Type 0} (P : X → Type 0) (xs : List X) (k : ℕ) (x : X) → AllByRecursion P xs → slice_get xs k ≡ Some x → P x
all_get P [] k x all at = absurd (cc)
all_get P (y ∷ xs) zero x all at = let same : y ≡ x = cc in subst P same all.0
all_get P (y ∷ xs) (suc k) x all at = all_get P xs k x all.1 at

all_at : {X : Type 0} (P : X → Type 0) (xs : List X) (i : ℕ) (d : X) → i < length xs → AllByRecursion P xs → P (get_or xs i d)
all_at P [] i d lt all = absurd (omega (arith, lt))
all_at P (x ∷ xs) zero d lt all = all.0
all_at P (x ∷ xs) (suc i) d lt all = all_at P xs i d (omega (arith, lt)) all.1

mapped_at : {X Y : Type 0} (f : X → Y) (xs : List X) (i : ℕ) (d : X) → i < length xs → slice_get (map f xs) i ≡ Some (f (get_or xs i d))
mapped_at f [] i d lt = absurd (omega (arith, lt))
mapped_at f (x ∷ xs) zero d lt = refl
mapped_at f (x ∷ xs) (suc i) d lt = mapped_at f xs i d (omega (arith, lt))

-- ---- the null symbol

null_nothing : DefinesNothing null_symbol
unfolding is_definition is_linkable is_absolute is_in_section is_global is_visible has_plain_kind is_canonical is_undefined is_local
null_nothing true = refl
null_nothing false = refl

null_ordinary : is_tls null_symbol ≡ false
unfolding is_tls
null_ordinary = refl

-- ---- a definition

-- a function or object in a section, with an address
record IsPlaced (s : read.Symbol) : Type 0 where
  some : 0 < s.section
  low : s.section ≤ 11
  bind : s.bind ≡ 1
  visibility : s.visibility ≡ 0
  kind : (s.kind ≡ 1) ⊎ (s.kind ≡ 2)
  value : 0 < s.value

not_zero : (n : ℕ) → 0 < n → (n == 0) ≡ false
not_zero n lt = grind (arith, nat_tests)

plain_kind : (s : read.Symbol) → (s.kind ≡ 1) ⊎ (s.kind ≡ 2) → has_plain_kind s ≡ true
unfolding has_plain_kind
plain_kind s (inl one) = (let no : (s.kind == 0) ≡ false = ap (λ (k : ℕ). k == 0) one in let yes : (s.kind == 1) ≡ true = ap (λ (k : ℕ). k == 1) one in rw (no, yes) refl)
plain_kind s (inr two) =
    let no : (s.kind == 0) ≡ false = ap (λ (k : ℕ). k == 0) two in
    let neither : (s.kind == 1) ≡ false = ap (λ (k : ℕ). k == 1) two in
    let yes : (s.kind == 2) ≡ true = ap (λ (k : ℕ). k == 2) two in
    rw (no, neither, yes) refl

no_number : (s : read.Symbol) → s.section ≤ 11 → is_absolute s ≡ false
unfolding is_absolute
no_number s low = grind (arith, nat_tests)

in_section : (s : read.Symbol) → 0 < s.section → s.section ≤ 11 → is_in_section s ≡ true
unfolding is_in_section
in_section s some low = let below : nat_le 65280 s.section ≡ false = grind (arith, nat_tests) in rw (not_zero s.section some, below) refl

placed_definition : (s : read.Symbol) → IsPlaced s → is_definition s ≡ true
unfolding is_definition is_linkable is_global is_visible has_value
placed_definition s is =
    let global : (s.bind == 1) ≡ true = ap (λ (k : ℕ). k == 1) is.bind in
    let visible : (s.visibility == 0) ≡ true = ap (λ (k : ℕ). k == 0) is.visibility in
    rw (no_number s is.low, in_section s is.some is.low, global, visible, plain_kind s is.kind, not_zero s.value is.value) refl

not_local_storage : (s : read.Symbol) → (s.kind ≡ 1) ⊎ (s.kind ≡ 2) → is_tls s ≡ false
unfolding is_tls
not_local_storage s (inl one) = ap (λ (k : ℕ). k == 6) one
not_local_storage s (inr two) = ap (λ (k : ℕ). k == 6) two

-- ---- a reference

record IsLoose (s : read.Symbol) : Type 0 where
  section : s.section ≡ 0
  value : s.value ≡ 0

loose_nothing : (s : read.Symbol) → IsLoose s → DefinesNothing s
unfolding is_definition is_linkable is_absolute is_in_section is_canonical
loose_nothing s is program =
    let no : (s.section == 65521) ≡ false = ap (λ (k : ℕ). k == 65521) is.section in
    let none : (s.section == 0) ≡ true = ap (λ (k : ℕ). k == 0) is.section in
    let low : (s.value == 0) ≡ true = ap (λ (k : ℕ). k == 0) is.value in
    rw (no, none, low) (nothing program (is_undefined s) (is_local s))
  where
    nothing : (program undefined own : Bool) → (program && (undefined && not own && false)) ≡ false
    nothing true true true = refl
    nothing true true false = refl
    nothing true false own = refl
    nothing false undefined own = refl

-- ---- the symbols of a plan

data_shapes : (a b c d : Bool) → nat_lt 0 (index_of (plain_roles a b c d) (codes ".data")) ≡ true
unfolding chosen section_name index_of
data_shapes = sixteen (λ a b c d. nat_lt 0 (index_of (plain_roles a b c d) (codes ".data"))) refl

bss_shapes : (a b c d : Bool) → nat_lt 0 (index_of (plain_roles a b c d) (codes ".bss")) ≡ true
unfolding chosen section_name index_of
bss_shapes = sixteen (λ a b c d. nat_lt 0 (index_of (plain_roles a b c d) (codes ".bss"))) refl

below_from : (a b : ℕ) → nat_lt a b ≡ true → a < b
below_from a b h = grind (arith, nat_tests)

-- a plan of a plain recipe
record IsOfPlain (p : LayoutPlan) : Type 0 where
  settings : ArePlain p.settings
  few : length p.roles ≤ 11
  in_data : 0 < index_of p.roles (codes ".data")
  bss : 0 < index_of p.roles (codes ".bss")

plan_plain : (r : Recipe) → IsPlain r → IsOfPlain (plan_of r)
plan_plain r plain = record {
  settings = plain_settings r plain;
  few = few_roles r plain;
  in_data = subst (λ (l : List Role). 0 < index_of l (codes ".data")) (sym (roles_plain r plain)) (below_from 0 _ (data_shapes _ _ _ _));
  bss = subst (λ (l : List Role). 0 < index_of l (codes ".bss")) (sym (roles_plain r plain)) (below_from 0 _ (bss_shapes _ _ _ _));
}

section_placed : (p : LayoutPlan) (x : SymbolLine) → IsOfPlain p → IsOwn p.settings x → (0 < section_of p x) × (section_of p x ≤ 11)
unfolding section_of
section_placed p x plain own =
    let none : (x.kind == 0) ≡ false = elim own.kind [ inl one ↦ ap (λ (k : ℕ). k == 0) one | inr two ↦ ap (λ (k : ℕ). k == 0) two ] in
    rw (own.defined, none) (elim (cases_Bool (x.kind == 6 || nat_lt x.offset p.settings.data_size)) [
      | inl first ↦ rw first (plain.in_data, omega (arith, index_small p.roles (codes ".data"), plain.few))
      | inr second ↦ rw second (plain.bss, omega (arith, index_small p.roles (codes ".bss"), plain.few))
    ])

value_placed : (p : LayoutPlan) (x : SymbolLine) → IsOfPlain p → IsOwn p.settings x → value_of p x ≡ data_address p.settings + x.offset
unfolding value_of
value_placed p x plain own =
    let none : (x.kind == 0) ≡ false = elim own.kind [ inl one ↦ ap (λ (k : ℕ). k == 0) one | inr two ↦ ap (λ (k : ℕ). k == 0) two ] in
    let other : (x.kind == 6) ≡ false = elim own.kind [ inl one ↦ ap (λ (k : ℕ). k == 6) one | inr two ↦ ap (λ (k : ℕ). k == 6) two ] in
    let small : data_address p.settings + x.offset < 2 ^ 64 = omega (arith, data_small p.settings, own.within, plain.settings.few_data, plain.settings.few_bss) in
    rw (own.placed, own.defined, none, other) (plus_small (data_address p.settings) x.offset small)

address_some : (s : Settings) → 0 < data_address s
unfolding data_address
address_some s = omega arith

own_placed : (p : LayoutPlan) (x : SymbolLine) → IsOfPlain p → x.visibility ≡ 0 → IsOwn p.settings x → IsPlaced (planned_symbol p x)
unfolding planned_symbol
own_placed p x plain visible own =
    let section = section_placed p x plain own in
    record {
      some = section.0;
      low = section.1;
      bind = own.bind;
      visibility = visible;
      kind = own.kind;
      value = omega (arith, value_placed p x plain own, address_some p.settings);
    }

-- in the memory of the second PT_LOAD
second_holds : (s : Settings) (tables_end value size offset : ℕ) → ArePlain s → value ≡ data_address s + offset → offset + size ≤ s.data_size + s.bss → is_in_load value size (second_load s tables_end) ≡ true
unfolding is_in_load second_load
second_holds s tables_end value size offset plain is within =
    let sum : plus s.data_size s.bss ≡ s.data_size + s.bss = plus_small s.data_size s.bss (omega (arith, plain.few_data, plain.few_bss)) in
    let from : nat_le (data_address s) value ≡ true = at_most (data_address s) value (omega (arith, is)) in
    let end : nat_le (value + size) (data_address s + plus s.data_size s.bss) ≡ true = at_most (value + size) (data_address s + plus s.data_size s.bss) (omega (arith, is, within, sum)) in
    rw (from, end) refl
  where
    at_most : (a b : ℕ) → a ≤ b → nat_le a b ≡ true
    at_most a b le = grind (arith, nat_tests)

own_loaded : (p : LayoutPlan) (t : Tables) (x : SymbolLine) (d : PlacedSection) → IsOfPlain p → x.visibility ≡ 0 → IsOwn p.settings x → planned_segments p t ≡ shown true (first_load p.settings (end_of t)) (second_load p.settings (end_of t)) (dynamic_segment d) → IsLoaded (planned_segments p t) (planned_symbol p x)
unfolding planned_symbol
own_loaded p t x d plain visible own are =
    let placed = own_placed p x plain visible own in
    let second = second_load p.settings (end_of t) in
    let hit = second_holds p.settings (end_of t) (value_of p x) x.size x.offset plain.settings (value_placed p x plain own) own.within in
    record {
      definition = placed_definition (planned_symbol p x) placed;
      relative = no_number (planned_symbol p x) placed.low;
      loaded = subst (λ (ss : List Segment). list_any (is_in_load (value_of p x) x.size) ss ≡ true) (sym are)
          (or_right (is_in_load (value_of p x) x.size (first_load p.settings (end_of t))) (is_in_load (value_of p x) x.size second || (is_in_load (value_of p x) x.size (dynamic_segment d) || false)) (rw hit refl));
    }

weak_loose : (p : LayoutPlan) (x : SymbolLine) → IsWeakReference x → IsLoose (planned_symbol p x)
unfolding planned_symbol section_of value_of
weak_loose p x weak = record { section = rw weak.undefined refl; value = rw weak.unplaced refl }

unversioned_is : version_index 1 ≡ 1
unversioned_is = refl

symbol_settled : (p : LayoutPlan) (t : Tables) (x : SymbolLine) (d : PlacedSection) → IsOfPlain p → planned_segments p t ≡ shown true (first_load p.settings (end_of t)) (second_load p.settings (end_of t)) (dynamic_segment d) → IsModestSymbol p.settings x → IsSettledSymbol (planned_segments p t) (planned_symbol p x)
unfolding planned_symbol
symbol_settled p t x d plain are modest = elim modest.form [
  | inl own ↦ record { ordinary = not_local_storage (planned_symbol p x) own.kind; unversioned = unversioned_is; form = inl (own_loaded p t x d plain modest.visibility own are) }
  | inr weak ↦ record { ordinary = not_local_storage (planned_symbol p x) (inr weak.kind); unversioned = unversioned_is; form = inr (record { nothing = loose_nothing (planned_symbol p x) (weak_loose p x weak); weak = weak.bind }) }
]

-- ---- relocations

-- a relocation of a recipe with what it is known to copy
record IsCounted (r : Recipe) (x : Relocation) : Type 0 where
  modest : IsModestRelocation r x
  copies : x.kind ≡ R_X86_64_COPY → list_any (copies_name x.name) r.relocations ≡ true

same_name : (name : List ℕ) → bytes_eq name name ≡ true
same_name name = (bytes_eq-Decides name name).1 refl

all_named : (xs : List Relocation) → AllByRecursion (λ x. x.kind ≡ R_X86_64_COPY → list_any (copies_name x.name) xs ≡ true) xs
all_named [] = tt
all_named (x ∷ xs) = (
  λ copy. (let hit : (x.kind == R_X86_64_COPY) ≡ true = ap (λ (k : ℕ). k == R_X86_64_COPY) copy in rw (hit, same_name x.name) refl),
  later xs (all_named xs),
)
  where
    later : (ys : List Relocation) → AllByRecursion (λ y. y.kind ≡ R_X86_64_COPY → list_any (copies_name y.name) xs ≡ true) ys → AllByRecursion (λ y. y.kind ≡ R_X86_64_COPY → list_any (copies_name y.name) (x ∷ xs) ≡ true) ys
    later [] all = tt
    later (y ∷ ys) all = (λ copy. or_right (copies_name y.name x) (list_any (copies_name y.name) xs) (all.0 copy), later ys all.1)

all_counted : (r : Recipe) → IsModest r → AllByRecursion (IsCounted r) (plan_of r).relocations
all_counted r modest = subst (AllByRecursion (IsCounted r)) (sym (plan_relocations r)) (both r.relocations modest.relocations (all_named r.relocations))
  where
    both : (xs : List Relocation) → AllByRecursion (IsModestRelocation r) xs → AllByRecursion (λ x. x.kind ≡ R_X86_64_COPY → list_any (copies_name x.name) r.relocations ≡ true) xs → AllByRecursion (IsCounted r) xs
    both [] all more = tt
    both (x ∷ xs) all more = (record { modest = all.0; copies = more.0 }, both xs all.1 more.1)

abbrev IsReloc : Recipe → Object → Reloc → Type 0
IsReloc r o x = ChangesWord o x ⊎ CopiesNamed r o x

-- what a plan is known to have
record IsKnown (r : Recipe) (o : Object) : Type 0 where
  few : length (plan_of r).symbols + 1 < 2 ^ 32
  symbols : o.symbols ≡ null_symbol ∷ map (planned_symbol (plan_of r)) (plan_of r).symbols
  loaded : (x : SymbolLine) → IsModestSymbol (plan_of r).settings x → IsOwn (plan_of r).settings x → IsLoaded o.segments (planned_symbol (plan_of r) x)
  modest : AllByRecursion (IsModestSymbol (plan_of r).settings) (plan_of r).symbols
  spelled : AllByRecursion IsSpelled (plan_of r).symbols

one_more : (r : Recipe) (o : Object) → IsKnown r o → length o.symbols ≡ suc (length (plan_of r).symbols)
one_more r o known = ap (λ (ss : List read.Symbol). length ss) known.symbols ∙ (let n = length-map (plan_of r).symbols (planned_symbol (plan_of r)) in omega (arith, n))

same_from : (a b : ℕ) → (a == b) ≡ true → a ≡ b
same_from a b h = grind (arith, nat_tests)

word_kind : (k : ℕ) → is_word_kind k ≡ true → IsWordKind k
word_kind k h = elim (or_cases (k == 1 || k == 6 || k == 7) (k == 8) h) [
  | inr relative ↦ inl (same_from k 8 relative)
  | inl three ↦ elim (or_cases (k == 1 || k == 6) (k == 7) three) [
    | inr slot ↦ inr (inr (inr (same_from k 7 slot)))
    | inl two ↦ elim (or_cases (k == 1) (k == 6) two) [
      | inr data_word ↦ inr (inr (inl (same_from k 6 data_word)))
      | inl absolute ↦ inr (inl (same_from k 1 absolute))
    ]
  ]
]

word_changes : (r : Recipe) (o : Object) (x : Relocation) → IsKnown r o → ChangesWordOf r.settings x → ChangesWord o (reloc_of (planned_symbols (plan_of r)) (rela_of (plan_of r) x))
unfolding reloc_of rela_of
word_changes r o x known word = record {
  kind = word_kind x.kind word.kind;
  symbol = omega (arith, number_small (plan_of r) x.name known.few, one_more r o known);
}

-- the symbol of a copy has bytes, so it is defined
copied_own : (s : Settings) (x : SymbolLine) → IsModestSymbol s x → x.size ≡ 8 → IsOwn s x
copied_own s x modest size = elim modest.form [ inl own ↦ own | inr weak ↦ absurd (omega (arith, size, weak.size)) ]

copy_copies : (r : Recipe) (o : Object) (x : Relocation) → IsPlain r → IsKnown r o → IsCounted r x → CopiesWord r x → CopiesNamed r o (reloc_of (planned_symbols (plan_of r)) (rela_of (plan_of r) x))
unfolding reloc_of rela_of planned_symbol
copy_copies r o x plain known counted copy =
    let p : LayoutPlan = plan_of r in
    let there : IsThere (is_written_as x.name) p.symbols = copied r x plain copy in
    let s : SymbolLine = get_or p.symbols there.index nobody in
    let modest : IsModestSymbol p.settings s = all_at (IsModestSymbol p.settings) p.symbols there.index nobody there.within known.modest in
    let written : s.written ≡ x.name = (bytes_eq-Decides s.written x.name).0 there.passes in
    let spelled : s.written ≡ s.name = all_at IsSpelled p.symbols there.index nobody there.within known.spelled in
    let sizes : s.size ≡ 8 = copied_size r x copy there in
    record {
      kind = copy.kind;
      index = there.index;
      is = copied_number r x there known.few copy.named;
      symbol = planned_symbol p s;
      at = ap (λ (ss : List read.Symbol). slice_get ss (suc there.index)) known.symbols ∙ mapped_at (planned_symbol p) p.symbols there.index nobody there.within;
      own = known.loaded s modest (copied_own p.settings s modest sizes);
      named = subst (λ (name : List ℕ). list_any (copies_name name) r.relocations ≡ true) (sym written ∙ spelled) (counted.copies copy.kind);
    }

reloc_is : (r : Recipe) (o : Object) → IsPlain r → IsKnown r o → (x : Relocation) → IsCounted r x → IsReloc r o (reloc_of (planned_symbols (plan_of r)) (rela_of (plan_of r) x))
reloc_is r o plain known x counted = elim counted.modest.form [
  | inl word ↦ inl (word_changes r o x known word)
  | inr copy ↦ inr (copy_copies r o x plain known counted copy)
]

read_are : (r : Recipe) (o : Object) (xs : List Relocation) → IsPlain r → IsKnown r o → AllByRecursion (IsCounted r) xs → AllByRecursion (IsReloc r o) (read_as (plan_of r) xs)
unfolding read_as
read_are r o [] plain known all = tt
read_are r o (x ∷ xs) plain known all = (reloc_is r o plain known x all.0, read_are r o xs plain known all.1)

relocs_are : (r : Recipe) (o : Object) → IsPlain r → IsModest r → IsKnown r o → AllByRecursion (IsReloc r o) (planned_relocs (plan_of r))
unfolding planned_relocs
relocs_are r o plain modest known =
    let p : LayoutPlan = plan_of r in
    let all = all_counted r modest in
    all_both (IsReloc r o) (read_as p (filter is_other p.relocations)) (read_as p (filter is_jump_slot p.relocations))
    (read_are r o (filter is_other p.relocations) plain known (all_kept (IsCounted r) is_other p.relocations all)) (read_are r o (filter is_jump_slot p.relocations) plain known (all_kept (IsCounted r) is_jump_slot p.relocations all))

-- ---- definers

definer_of : (r : Recipe) (o : Object) (name : List ℕ) → IsPlain r → IsKnown r o → list_any (defines_name name) r.symbols ≡ true → HasDefinition o name
unfolding planned_symbol
definer_of r o name plain known hit =
    let p : LayoutPlan = plan_of r in
    let there : IsThere (defines_name name) p.symbols = position_there (defines_name name) p.symbols (subst (λ (ss : List SymbolLine). list_any (defines_name name) ss ≡ true) (sym (plan_symbols r)) (any_ordered (defines_name name) r.settings r.symbols plain.settings.some_buckets hit)) in
    let s : SymbolLine = get_or p.symbols there.index nobody in
    let parts = and_parts s.defined (bytes_eq s.name name) there.passes in
    let modest : IsModestSymbol p.settings s = all_at (IsModestSymbol p.settings) p.symbols there.index nobody there.within known.modest in
    let own : IsOwn p.settings s = elim modest.form [ inl is ↦ is | inr weak ↦ absurd (false≢true (sym weak.undefined ∙ parts.0)) ] in
    record {
      index = there.index;
      symbol = planned_symbol p s;
      at = ap (λ (ss : List read.Symbol). slice_get ss (suc there.index)) known.symbols ∙ mapped_at (planned_symbol p) p.symbols there.index nobody there.within;
      definition = (known.loaded s modest own).definition;
      named = (bytes_eq-Decides s.name name).0 parts.1;
    }

-- ---- the object

data_there : (s : Settings) → 0 < s.data_size → has_data s ≡ true
unfolding has_data
data_there s some = let hit : nat_lt 0 s.data_size ≡ true = less 0 s.data_size some in rw hit refl
  where
    less : (a b : ℕ) → a < b → nat_lt a b ≡ true
    less a b lt = grind (arith, nat_tests)

settings_stay : (r : Recipe) → (plan_of r).settings ≡ r.settings
unfolding plan_of
settings_stay r = refl

pub shown_by : (r : Recipe) (t : Tables) → IsPlain r → 0 < r.settings.data_size → tables (plan_of r) ≡ Ok t
    → planned_segments (plan_of r) t ≡ shown true (first_load (plan_of r).settings (end_of t)) (second_load (plan_of r).settings (end_of t)) (dynamic_segment (place_of t.places (codes ".dynamic")))
shown_by r t plain some e =
    let p : LayoutPlan = plan_of r in
    let laid = laid_tables p t e in
    let d : PlacedSection = place_of t.places (codes ".dynamic") in
    let there : IsTable (end_of t) d = found_place (IsTable (end_of t)) (codes ".dynamic") t.places laid.1 (dynamic_there r t plain e) in
    segments_shown p t (plain_settings r plain) (there_is d there.some)
    ∙ ap (λ (b : Bool). shown b (first_load p.settings (end_of t)) (second_load p.settings (end_of t)) (dynamic_segment d)) (data_there p.settings (subst (λ (s : Settings). 0 < s.data_size) (sym (settings_stay r)) some))

few_all : (r : Recipe) → IsPlain r → length r.symbols ≤ 512 → length (plan_of r).symbols + 1 < 2 ^ 32
few_all r plain few =
    let same = length_permutation r.symbols (ordered r.settings r.symbols) (ordered_permutes r.settings r.symbols plain.settings.some_buckets) in
    omega (arith, ap (λ (ss : List SymbolLine). length ss) (plan_symbols r), same, few)

known_of : (r : Recipe) (t : Tables) (before : List PlacedSection) → IsDescribing r → tables (plan_of r) ≡ Ok t → IsKnown r (planned_object r t before)
unfolding planned_object object planned_heads planned_linking
known_of r t before is e =
    let p : LayoutPlan = plan_of r in
    let own : IsOfPlain p = plan_plain r is.plain in
    record {
      few = few_all r is.plain is.bounded.symbols;
      symbols = refl;
      loaded = λ x modest here. own_loaded p t x (place_of t.places (codes ".dynamic")) own modest.visibility here (shown_by r t is.plain is.some_data e);
      modest = subst (λ (s : Settings). AllByRecursion (IsModestSymbol s) p.symbols) (sym (settings_stay r)) (subst (AllByRecursion (IsModestSymbol r.settings)) (sym (plan_symbols r)) (all_ordered (IsModestSymbol r.settings) r.settings r.symbols is.modest.symbols));
      spelled = subst (AllByRecursion IsSpelled) (sym (plan_symbols r)) (all_ordered IsSpelled r.settings r.symbols is.spelled);
    }

symbols_of : (r : Recipe) (t : Tables) (before : List PlacedSection) → IsDescribing r → tables (plan_of r) ≡ Ok t → IsKnown r (planned_object r t before) → HasSettledSymbols (planned_object r t before)
unfolding planned_object object planned_heads planned_linking
symbols_of r t before is e known =
    let p : LayoutPlan = plan_of r in
    record {
      null = λ s at. (let here : ◌≡◌ {A = Option read.Symbol} (Some null_symbol) (Some s) = at in let same : null_symbol ≡ s = cc in subst IsNull same (record { ordinary = null_ordinary; nothing = null_nothing }));
      each = λ k s at. all_get (IsSettledSymbol (planned_segments p t)) (map (planned_symbol p) p.symbols) k s
          (all_mapped (IsModestSymbol p.settings) (IsSettledSymbol (planned_segments p t)) (planned_symbol p) (λ x modest. symbol_settled p t x (place_of t.places (codes ".dynamic")) (plan_plain r is.plain) (shown_by r t is.plain is.some_data e) modest) p.symbols known.modest) at;
    }

relocs_of : (r : Recipe) (t : Tables) (before : List PlacedSection) → (planned_object r t before).relocations ≡ planned_relocs (plan_of r)
unfolding planned_object object planned_layout
relocs_of r t before = refl

pub described_settled : DescribedObjectsAreSettled
described_settled r t before is e =
    let o : Object = planned_object r t before in
    let known : IsKnown r o = known_of r t before is e in
    record {
      symbols = symbols_of r t before is e known;
      relocs = λ k x at. all_get (IsReloc r o) (planned_relocs (plan_of r)) k x (relocs_are r o is.plain is.modest known) (ap (λ (rs : List Reloc). slice_get rs k) (sym (relocs_of r t before)) ∙ at);
      definers = λ name hit. definer_of r o name is.plain known hit;
    }
