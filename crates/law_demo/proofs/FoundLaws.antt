-- The symbols of a plain and modest recipe's file are found: clauses 20 to 22, and 30 and 31.
use Rattle.std.proofs.Common.{◌≡◌, ℕ, zero, suc, ◌+◌, ◌/◌, ◌^◌, ◌<◌, ◌≤◌, Bool, true, false, List, [], ◌∷◌, ◌++◌, length, map, get_or, Option, Some, None, refl, sym, ap, subst, ◌∙◌, arith, inl, inr}
use Rattle.std.specs.Prelude.{not, ◌==◌, ◌&&◌, ◌||◌, nat_le, nat_lt, filter, slice_get, is_some, if◌then◌else◌}
use Rattle.std.specs.List.{flat_map, list_any, range_with_len}
use Rattle.std.specs.List.Sorted.{IsPermutation}
use Rattle.std.specs.Option.{option_map}
use Rattle.std.specs.Str.{bytes_eq}
use Rattle.std.proofs.lemmas.Bool.{cases_Bool, false≢true, or_from, or_parts}
use Rattle.std.proofs.lemmas.Bool.Decides.{nat_tests}
use Rattle.std.proofs.lemmas.Nat.{mod_below}
use Rattle.std.proofs.lemmas.Slice.Eq.{bytes_eq-Decides}
use Rattle.std.proofs.lemmas.List.{length-map}
use Rattle.std.proofs.lemmas.List.Sorted.{IsPermutation-refl, IsPermutation-trans, IsPermutation-append_right, IsPermutation-filter_both}
use Rattle.std.proofs.lemmas.Option.{slice_get-get_or, slice_get-map}
use Rattle.pl_base.specs.Pairs.{any_pair}
use Rattle.pl_base.proofs.PairLaws.{any_pair_permuted}
use Rattle.pl_elf.specs.Headers.{segment_of_kind}
use Rattle.pl_elf.specs.declared.header.Header.{Header}
use Rattle.pl_elf.specs.declared.section.Section.{Section}
use Rattle.pl_elf.specs.declared.segment.Segment.{Segment}
use Rattle.pl_dyn.specs.Read.{value_of}
use Rattle.pl_dyn.specs.declared.tags.Tag.{Tag}
use Rattle.pl_hash.specs.ChainSymbols.{is_chain_symbol, name_hash}
use Rattle.pl_hash.specs.Chain.{well_formed}
use Rattle.pl_hash.specs.Hash.{gnu}
use Rattle.pl_hash.specs.Table.{HashTable}
use Rattle.pl_sym.specs.Definers.{is_linkable, is_definition, is_canonical, is_definer}
use Rattle.pl_sym.specs.Symbol as seen
use Rattle.pl_sym.specs.declared.class.Class.TheVariants.{Other}
use Rattle.pl_sym.specs.declared.symbol.Symbol as read
use Rattle.pl_object.specs.FilePart.{loaded}
use Rattle.pl_object.specs.Reads.{too_large, has_flag, is_pie}
use Rattle.pl_object.specs.SymbolClauses.{is_above, base_not_zero, hash_table, hash_tables, defines, is_missed, misses_one, is_incomplete, hash_incomplete, is_same_version, is_twin, duplicate_definer}
use Rattle.pl_object.specs.Tables.{has_tag, section_memory}
use Rattle.pl_build.specs.declared.line.SymbolLine.{SymbolLine}
use Rattle.pl_build.specs.declared.layout_plan.LayoutPlan.{LayoutPlan}
use Rattle.pl_build.specs.declared.recipe.Recipe.{Recipe}
use Rattle.pl_build.specs.declared.recipe.Settings.{Settings}
use Rattle.pl_build.specs.declared.roles.PlacedSection.{PlacedSection}
use Rattle.pl_build.specs.Dynamic.{flags_1}
use Rattle.pl_build.specs.File.{type_of}
use Rattle.pl_build.specs.FileKinds.{is_position_independent}
use Rattle.pl_build.specs.HashTables.{is_defined}
use Rattle.pl_build.specs.LayoutPlan.{plan_of, base_of}
use Rattle.pl_build.specs.Segments.{readable, first_load, second_load, dynamic_segment}
use Rattle.pl_build.specs.Symbols.{bucket_of, bucket, is_in, is_undefined, ordered}
use Rattle.pl_build.specs.SymbolTable.{section_of}
use Rattle.law_demo.specs.Accepted.{planned_hashes}
use Rattle.law_demo.specs.Gnu.{gnu_of, IsGnuWhole}
use Rattle.law_demo.specs.Hashes.{sysv_of, FitsBuckets, IsWhole}
use Rattle.law_demo.specs.Modest.{is_namesake, IsModest}
use Rattle.law_demo.specs.Plain.{ArePlain, IsPlain}
use Rattle.law_demo.specs.Relocs.{planned_symbols}
use Rattle.law_demo.specs.Symbols.{null_symbol, planned_symbol}
use Rattle.law_demo.specs.Tags.{planned_tags}
use Rattle.law_demo.proofs.ClauseLaws.{not_above, at_most, shown}
use Rattle.law_demo.proofs.GnuLaws.{gnu_whole}
use Rattle.law_demo.proofs.PlacedLaws.{some_if}
use Rattle.law_demo.proofs.RelocLaws.{nobody}
use Rattle.law_demo.proofs.SysvLaws.{sysv_whole}
use Rattle.law_demo.proofs.ValueLaws.{planned_value}

below_true : (a b : ℕ) → a < b → nat_lt a b ≡ true
below_true a b lt = grind (arith, nat_tests)

same_from : (a b : ℕ) → (a == b) ≡ true → a ≡ b
same_from a b h = grind (arith, nat_tests)

second_false : (a b : Bool) → b ≡ false → (a && b) ≡ false
second_false true b h = h
second_false false b h = refl

-- ---- clause 20

first_is : (b : Bool) (s : Settings) (tables_end : ℕ) (d : PlacedSection) → segment_of_kind 1 (shown b (first_load s tables_end) (second_load s tables_end) (dynamic_segment d)) ≡ Some (first_load s tables_end)
unfolding first_load second_load dynamic_segment readable
first_is true s tables_end d = refl
first_is false s tables_end d = refl

first_base : (s : Settings) (tables_end : ℕ) → is_above (Some (first_load s tables_end)) ≡ not (base_of s / 4096 == 0)
unfolding first_load readable
first_base s tables_end = refl

pub base_in_page : (s : Settings) (b : Bool) (tables_end : ℕ) (d : PlacedSection) → base_not_zero (type_of s == 2) (shown b (first_load s tables_end) (second_load s tables_end) (dynamic_segment d)) ≡ false
unfolding base_not_zero type_of base_of
base_in_page s b tables_end d = elim (cases_Bool (is_position_independent s.kind)) [
  | inl library ↦
      let above : is_above (segment_of_kind 1 (shown b (first_load s tables_end) (second_load s tables_end) (dynamic_segment d))) ≡ false =
      ap is_above (first_is b s tables_end d) ∙ first_base s tables_end ∙ (rw library refl) in
      second_false (not (type_of s == 2)) (is_above (segment_of_kind 1 (shown b (first_load s tables_end) (second_load s tables_end) (dynamic_segment d)))) above
  | inr program ↦ rw program refl
]

-- ---- clause 21

none_in_range : (q : ℕ → Bool) (k n : ℕ) → ((i : ℕ) → i < k + n → q i ≡ false) → list_any q (range_with_len k n) ≡ false
none_in_range q k zero each = refl
none_in_range q k (suc n) each = or_from (q k) (list_any q (range_with_len (k + 1) n)) (each k (omega arith)) (none_in_range q (k + 1) n (λ i lt. each i (omega (arith, lt))))

null_defines_not : defines null_symbol ≡ false
unfolding is_definition is_linkable seen.is_absolute seen.is_in_section
null_defines_not = refl

undefined_defines_not : (p : LayoutPlan) (x : SymbolLine) → x.defined ≡ false → defines (planned_symbol p x) ≡ false
unfolding is_definition is_linkable seen.is_absolute seen.is_in_section planned_symbol section_of
undefined_defines_not p x undefined = rw undefined refl

-- a table that leads to each symbol that is defined
abbrev Leads : LayoutPlan → HashTable → Type 0
Leads p t = (i : ℕ) → i < length p.symbols → (get_or p.symbols i nobody).defined ≡ true → is_chain_symbol t (name_hash t (get_or p.symbols i nobody).name) (i + 1) ≡ true

one_not_missed : (p : LayoutPlan) (t : HashTable) (i : ℕ) → Leads p t → i < length p.symbols → is_missed t (suc i) (Some (planned_symbol p (get_or p.symbols i nobody))) ≡ false
unfolding planned_symbol
one_not_missed p t i leads lt =
    let x : SymbolLine = get_or p.symbols i nobody in
    elim (cases_Bool x.defined) [
      | inr undefined ↦ rw (undefined_defines_not p x undefined) refl
      | inl defined ↦
          let index : i + 1 ≡ suc i = omega arith in
          let there : is_chain_symbol t (name_hash t x.name) (suc i) ≡ true = subst (λ (n : ℕ). is_chain_symbol t (name_hash t x.name) n ≡ true) index (leads i lt defined) in
          second_false (defines (planned_symbol p x)) (not (is_chain_symbol t (name_hash t x.name) (suc i))) (ap (λ (b : Bool). not b) there)
    ]

symbol_at : (p : LayoutPlan) (i : ℕ) → i < length p.symbols → slice_get (planned_symbols p) (suc i) ≡ Some (planned_symbol p (get_or p.symbols i nobody))
symbol_at p i lt = slice_get-map (planned_symbol p) p.symbols i ∙ ap (λ (o : Option SymbolLine). option_map (planned_symbol p) o) (slice_get-get_or p.symbols i nobody lt)

index_not_missed : (p : LayoutPlan) (t : HashTable) (i : ℕ) → Leads p t → i < length (planned_symbols p) → is_missed t i (slice_get (planned_symbols p) i) ≡ false
index_not_missed p t zero leads lt = rw null_defines_not refl
index_not_missed p t (suc i) leads lt =
    let inside : i < length p.symbols = omega (arith, lt, length-map p.symbols (planned_symbol p)) in
    ap (is_missed t (suc i)) (symbol_at p i inside) ∙ one_not_missed p t i leads inside

complete : (p : LayoutPlan) (t : HashTable) → well_formed t ≡ true → Leads p t → is_incomplete (planned_symbols p) t ≡ false
unfolding is_incomplete misses_one
complete p t formed leads =
    let missed : list_any (λ index. is_missed t index (slice_get (planned_symbols p) index)) (range_with_len 0 (length (planned_symbols p))) ≡ false =
    none_in_range (λ index. is_missed t index (slice_get (planned_symbols p) index)) 0 (length (planned_symbols p)) (λ i lt. index_not_missed p t i leads (omega (arith, lt))) in
    rw (formed, missed) refl

plan_settings : (r : Recipe) → (plan_of r).settings ≡ r.settings
unfolding plan_of
plan_settings r = refl

fits_buckets : (r : Recipe) → IsPlain r → length (plan_of r).symbols + 1 < 2 ^ 32 → FitsBuckets (plan_of r)
unfolding plan_of
fits_buckets r plain few = record { some = plain.settings.some_buckets; count = omega (arith, plain.settings.few_buckets); symbols = few }

sysv_complete : (r : Recipe) → IsPlain r → length (plan_of r).symbols + 1 < 2 ^ 32 → is_incomplete (planned_symbols (plan_of r)) (sysv_of (plan_of r)) ≡ false
sysv_complete r plain few =
    let w : IsWhole (plan_of r) = sysv_whole (plan_of r) (fits_buckets r plain few) in
    complete (plan_of r) (sysv_of (plan_of r)) w.formed (λ i lt defined. w.leads i nobody lt)

gnu_complete : (r : Recipe) → IsPlain r → length (plan_of r).symbols + 1 < 2 ^ 32 → r.settings.hashes.gnu ≡ true → is_incomplete (planned_symbols (plan_of r)) (gnu_of (plan_of r)) ≡ false
gnu_complete r plain few has =
    let w : IsGnuWhole (plan_of r) = gnu_whole r (record { has = has; some = plain.settings.some_buckets; count = omega (arith, plain.settings.few_buckets); symbols = few }) in
    complete (plan_of r) (gnu_of (plan_of r)) w.formed (λ i lt defined. w.leads i nobody lt defined)

none_incomplete : (symbols : List read.Symbol) (a b : Bool) (s g : HashTable) → (a || b) ≡ true → is_incomplete symbols s ≡ false → (b ≡ true → is_incomplete symbols g ≡ false)
    → hash_incomplete ((if a then s ∷ [] else []) ++ (if b then g ∷ [] else [])) symbols ≡ false
unfolding hash_incomplete
none_incomplete symbols true true s g some x y = rw (x, y refl) refl
none_incomplete symbols true false s g some x y = rw x refl
none_incomplete symbols false true s g some x y = rw (y refl) refl
none_incomplete symbols false false s g some x y = absurd (false≢true some)

pub hashes_complete : (r : Recipe) → IsPlain r → IsModest r → length (plan_of r).symbols + 1 < 2 ^ 32 → hash_incomplete (planned_hashes r) (planned_symbols (plan_of r)) ≡ false
unfolding planned_hashes
hashes_complete r plain m few =
    none_incomplete (planned_symbols (plan_of r)) r.settings.hashes.sysv r.settings.hashes.gnu (sysv_of (plan_of r)) (gnu_of (plan_of r)) m.hashed (sysv_complete r plain few) (λ has. gnu_complete r plain few has)

-- the tables as they are read
with_words : List ℕ → Bool → ℕ → HashTable
with_words words gnu count = record { words = words; gnu = gnu; symbols = count }

table_read : (bytes : List ℕ) (ss : List Segment) (sections : List Section) (tags : List Tag) (count number addr : ℕ) (gnu there : Bool) (words : List ℕ) → value_of number tags ≡ some_if there addr → (there ≡ true → loaded bytes ss (section_memory number tags sections) ≡ words)
    → hash_table bytes ss sections tags count gnu number ≡ (if there then with_words words gnu count ∷ [] else [])
unfolding hash_table with_words
table_read bytes ss sections tags count number addr gnu true words told held = rw told (ap (λ (l : List ℕ). with_words l gnu count ∷ []) (held refl))
table_read bytes ss sections tags count number addr gnu false words told held = rw told refl

count_is : (p : LayoutPlan) → length (planned_symbols p) ≡ length p.symbols + 1
count_is p = omega (arith, length-map p.symbols (planned_symbol p))

pub hashes_read : (r : Recipe) (bytes : List ℕ) (ss : List Segment) (sections : List Section) (tags : List Tag) (one two : ℕ) → value_of 4 tags ≡ some_if r.settings.hashes.sysv one → value_of 0x6ffffef5 tags ≡ some_if r.settings.hashes.gnu two
    → (r.settings.hashes.sysv ≡ true → loaded bytes ss (section_memory 4 tags sections) ≡ (sysv_of (plan_of r)).words) → (r.settings.hashes.gnu ≡ true → loaded bytes ss (section_memory 0x6ffffef5 tags sections) ≡ (gnu_of (plan_of r)).words)
    → hash_tables bytes ss sections tags (length (planned_symbols (plan_of r))) ≡ planned_hashes r
unfolding hash_tables planned_hashes with_words
hashes_read r bytes ss sections tags one two sysv_told gnu_told sysv_held gnu_held =
    let p : LayoutPlan = plan_of r in
    let n : ℕ = length p.symbols + 1 in
    let a : Bool = r.settings.hashes.sysv in
    let b : Bool = r.settings.hashes.gnu in
    ap (λ (m : ℕ). hash_table bytes ss sections tags m false 4 ++ hash_table bytes ss sections tags m true 0x6ffffef5) (count_is p)
    ∙ ap (λ (ts : List HashTable). ts ++ hash_table bytes ss sections tags n true 0x6ffffef5) (table_read bytes ss sections tags n 4 one false a (sysv_of p).words sysv_told sysv_held)
    ∙ ap (λ (ts : List HashTable). (if a then with_words (sysv_of p).words false n ∷ [] else []) ++ ts) (table_read bytes ss sections tags n 0x6ffffef5 two true b (gnu_of p).words gnu_told gnu_held)

-- ---- clause 22: the order of the symbols is a permutation

filter_same : (c d : SymbolLine → Bool) (xs : List SymbolLine) → ((x : SymbolLine) → c x ≡ d x) → filter c xs ≡ filter d xs
filter_same c d [] same = refl
filter_same c d (x ∷ xs) same = elim (cases_Bool (d x)) [
  | inl hit ↦ rw (same x, hit) (ap (λ (l : List SymbolLine). x ∷ l) (filter_same c d xs same))
  | inr miss ↦ rw (same x, miss) (filter_same c d xs same)
]

filter_both : (c d : SymbolLine → Bool) (xs : List SymbolLine) → filter d (filter c xs) ≡ filter (λ x. c x && d x) xs
filter_both c d [] = refl
filter_both c d (x ∷ xs) = elim (cases_Bool (c x)) [
  | inl one ↦ elim (cases_Bool (d x)) [
    | inl two ↦ rw (one, two) (ap (λ (l : List SymbolLine). x ∷ l) (filter_both c d xs))
    | inr miss ↦ rw (one, miss) (filter_both c d xs)
  ]
  | inr miss ↦ rw miss (filter_both c d xs)
]

-- of the buckets from k on, so many
in_buckets : Settings → ℕ → ℕ → SymbolLine → Bool
in_buckets s k n x = x.defined && (nat_le k (bucket s x) && nat_lt (bucket s x) (k + n))

here_test : (d : Bool) (b k n : ℕ) → ((d && (nat_le k b && nat_lt b (k + suc n))) && (d && b == k)) ≡ (d && b == k)
here_test false b k n = refl
here_test true b k n = elim (cases_Bool (b == k)) [
  | inr other ↦ rw other (second_false (nat_le k b && nat_lt b (k + suc n)) false refl)
  | inl here ↦
      let at : b ≡ k = same_from b k here in
      rw (here, at_most k b (omega (arith, at)), below_true b (k + suc n) (omega (arith, at))) refl
]

rest_test : (d : Bool) (b k n : ℕ) → ((d && (nat_le k b && nat_lt b (k + suc n))) && not (d && b == k)) ≡ (d && (nat_le (k + 1) b && nat_lt b (k + 1 + n)))
rest_test false b k n = refl
rest_test true b k n = grind (arith, nat_tests)

none_test : (d : Bool) (b k : ℕ) → (d && (nat_le k b && nat_lt b (k + 0))) ≡ false
none_test false b k = refl
none_test true b k = grind (arith, nat_tests)

filter_none : (c : SymbolLine → Bool) (xs : List SymbolLine) → ((x : SymbolLine) → c x ≡ false) → filter c xs ≡ []
filter_none c [] none = refl
filter_none c (x ∷ xs) none = rw (none x) (filter_none c xs none)

buckets_permute : (s : Settings) (symbols : List SymbolLine) (k n : ℕ) → IsPermutation (filter (in_buckets s k n) symbols) (flat_map (λ b. filter (is_in s b) symbols) (range_with_len k n))
unfolding in_buckets is_in
buckets_permute s symbols k zero = subst (λ (l : List SymbolLine). IsPermutation l []) (sym (filter_none (in_buckets s k 0) symbols (λ x. none_test x.defined (bucket s x) k))) (IsPermutation-refl [])
buckets_permute s symbols k (suc n) =
    let c : SymbolLine → Bool = in_buckets s k (suc n) in
    let d : SymbolLine → Bool = is_in s k in
    let other : SymbolLine → Bool = λ x. not (is_in s k x) in
    let all : List SymbolLine = filter c symbols in
    let rest : List SymbolLine = flat_map (λ b. filter (is_in s b) symbols) (range_with_len (k + 1) n) in
    let here : filter d all ≡ filter d symbols = filter_both c d symbols ∙ filter_same (λ x. c x && d x) d symbols (λ x. here_test x.defined (bucket s x) k n) in
    let later : filter other all ≡ filter (in_buckets s (k + 1) n) symbols = filter_both c other symbols ∙ filter_same (λ x. c x && other x) (in_buckets s (k + 1) n) symbols (λ x. rest_test x.defined (bucket s x) k n) in
    let parted : IsPermutation all (filter d symbols ++ filter (in_buckets s (k + 1) n) symbols) =
    subst (λ (l : List SymbolLine). IsPermutation all (l ++ filter (in_buckets s (k + 1) n) symbols)) here (subst (λ (l : List SymbolLine). IsPermutation all (filter d all ++ l)) later (IsPermutation-filter_both d other (λ x. refl) all)) in
    IsPermutation-trans all (filter d symbols ++ filter (in_buckets s (k + 1) n) symbols) (filter d symbols ++ rest) parted
    (IsPermutation-append_right (filter d symbols) (filter (in_buckets s (k + 1) n) symbols) rest (buckets_permute s symbols (k + 1) n))

bucket_small : (s : Settings) (x : SymbolLine) → 0 < s.buckets → bucket s x < s.buckets
unfolding bucket bucket_of
bucket_small s x some = elim (cases_Bool s.hashes.gnu) [
  | inr other ↦ rw other some
  | inl has ↦ rw (has, not_zero s.buckets some) (mod_below (gnu x.name) s.buckets some)
]
  where
    not_zero : (n : ℕ) → 0 < n → (n == 0) ≡ false
    not_zero n h = grind (arith, nat_tests)

own_test : (d : Bool) (b n : ℕ) → b < n → d ≡ (d && (nat_le 0 b && nat_lt b (0 + n)))
own_test false b n lt = refl
own_test true b n lt = sym (rw (at_most 0 b (omega arith), below_true b (0 + n) (omega (arith, lt))) refl)

undefined_flips : (x : SymbolLine) → is_defined x ≡ not (is_undefined x)
undefined_flips x = elim (cases_Bool x.defined) [
  | inl yes_defined ↦ rw yes_defined refl
  | inr undefined ↦ rw undefined refl
]

pub ordered_permutes : (s : Settings) (symbols : List SymbolLine) → 0 < s.buckets → IsPermutation symbols (ordered s symbols)
unfolding ordered in_buckets
ordered_permutes s symbols some =
    let others : List SymbolLine = filter is_undefined symbols in
    let own : List SymbolLine = flat_map (λ b. filter (is_in s b) symbols) (range_with_len 0 s.buckets) in
    let same : filter is_defined symbols ≡ filter (in_buckets s 0 s.buckets) symbols = filter_same is_defined (in_buckets s 0 s.buckets) symbols (λ x. own_test x.defined (bucket s x) s.buckets (bucket_small s x some)) in
    let permuted : IsPermutation (filter is_defined symbols) own = subst (λ (l : List SymbolLine). IsPermutation l own) (sym same) (buckets_permute s symbols 0 s.buckets) in
    IsPermutation-trans symbols (others ++ filter is_defined symbols) (others ++ own) (IsPermutation-filter_both is_undefined is_defined undefined_flips symbols)
    (IsPermutation-append_right others (filter is_defined symbols) own permuted)

bytes_turned : (a b : List ℕ) → bytes_eq a b ≡ bytes_eq b a
bytes_turned a b = elim (cases_Bool (bytes_eq a b)) [
  | inl one ↦ elim (cases_Bool (bytes_eq b a)) [
    | inl two ↦ one ∙ sym two
    | inr two ↦ absurd (false≢true (sym two ∙ (bytes_eq-Decides b a).1 (sym ((bytes_eq-Decides a b).0 one))))
  ]
  | inr one ↦ elim (cases_Bool (bytes_eq b a)) [
    | inl two ↦ absurd (false≢true (sym one ∙ (bytes_eq-Decides a b).1 (sym ((bytes_eq-Decides b a).0 two))))
    | inr two ↦ one ∙ sym two
  ]
]

plan_symbols : (r : Recipe) → (plan_of r).symbols ≡ ordered r.settings r.symbols
unfolding plan_of
plan_symbols r = refl

names_apart : (r : Recipe) → IsPlain r → IsModest r → any_pair is_namesake (plan_of r).symbols ≡ false
names_apart r plain m =
    ap (any_pair is_namesake) (plan_symbols r)
    ∙ sym (any_pair_permuted is_namesake (λ x y. bytes_turned x.name y.name) r.symbols (ordered r.settings r.symbols) (ordered_permutes r.settings r.symbols plain.settings.some_buckets)) ∙ m.names

-- symbols of other names are no twins
twin_not : (p : LayoutPlan) (program : Bool) (x y : SymbolLine) → is_namesake x y ≡ false → is_twin None program (planned_symbol p x) (planned_symbol p y) ≡ false
unfolding is_twin planned_symbol
twin_not p program x y other =
    let s : read.Symbol = planned_symbol p x in
    let t : read.Symbol = planned_symbol p y in
    third (is_definer s Other program) (is_definer t Other program) (bytes_eq x.name y.name) (is_same_version None s t) other
  where
    third : (a b c d : Bool) → c ≡ false → (a && b && c && d) ≡ false
    third true true c d h = rw h refl
    third true false c d h = refl
    third false b c d h = refl

none_with : (p : LayoutPlan) (program : Bool) (x : SymbolLine) (ys : List SymbolLine) → list_any (is_namesake x) ys ≡ false → list_any (is_twin None program (planned_symbol p x)) (map (planned_symbol p) ys) ≡ false
none_with p program x [] other = refl
none_with p program x (y ∷ ys) other =
    let parts = or_parts (is_namesake x y) (list_any (is_namesake x) ys) other in
    or_from (is_twin None program (planned_symbol p x) (planned_symbol p y)) (list_any (is_twin None program (planned_symbol p x)) (map (planned_symbol p) ys)) (twin_not p program x y parts.0) (none_with p program x ys parts.1)

no_twins : (p : LayoutPlan) (program : Bool) (xs : List SymbolLine) → any_pair is_namesake xs ≡ false → any_pair (is_twin None program) (map (planned_symbol p) xs) ≡ false
no_twins p program [] other = refl
no_twins p program (x ∷ xs) other =
    let parts = or_parts (list_any (is_namesake x) xs) (any_pair is_namesake xs) other in
    or_from (list_any (is_twin None program (planned_symbol p x)) (map (planned_symbol p) xs)) (any_pair (is_twin None program) (map (planned_symbol p) xs)) (none_with p program x xs parts.0) (no_twins p program xs parts.1)

-- the null symbol is no definer
null_not : (program : Bool) → is_definer null_symbol Other program ≡ false
unfolding is_definition is_linkable is_canonical seen.is_absolute seen.is_in_section seen.is_undefined seen.is_local
null_not true = refl
null_not false = refl

null_no_twin : (program : Bool) (ys : List read.Symbol) → list_any (is_twin None program null_symbol) ys ≡ false
unfolding is_twin
null_no_twin program [] = refl
null_no_twin program (y ∷ ys) = rw (null_not program) (null_no_twin program ys)

pub no_duplicates : (r : Recipe) (program : Bool) → IsPlain r → IsModest r → duplicate_definer None program (planned_symbols (plan_of r)) ≡ false
unfolding duplicate_definer
no_duplicates r program plain m =
    let p : LayoutPlan = plan_of r in
    or_from (list_any (is_twin None program null_symbol) (map (planned_symbol p) p.symbols)) (any_pair (is_twin None program) (map (planned_symbol p) p.symbols)) (null_no_twin program (map (planned_symbol p) p.symbols)) (no_twins p program p.symbols (names_apart r plain m))

-- ---- clauses 30 and 31

pub small_enough : (bytes : List ℕ) → length bytes ≤ 16777216 → too_large bytes ≡ false
unfolding too_large
small_enough bytes le = not_above (length bytes) 67108864 (omega (arith, le))

pub no_flags : (p : LayoutPlan) → ArePlain p.settings → flags_1 p.settings ≡ 0
unfolding flags_1
no_flags p plain = rw (plain.bare, plain.fixed) refl

pub no_flag_tag : (p : LayoutPlan) (places : List PlacedSection) → ArePlain p.settings → value_of 0x6ffffffb (planned_tags p places) ≡ None
no_flag_tag p places plain =
    planned_value 0x6ffffffb p places refl ∙ ap (λ (n : ℕ). if not (n == 0) then Some n else None) (no_flags p plain)

pub no_interp : (b : Bool) (s : Settings) (tables_end : ℕ) (d : PlacedSection) → segment_of_kind 3 (shown b (first_load s tables_end) (second_load s tables_end) (dynamic_segment d)) ≡ None
unfolding first_load second_load dynamic_segment readable
no_interp true s tables_end d = refl
no_interp false s tables_end d = refl

pub no_pie : (h : Header) (ss : List Segment) (tags : List Tag) → value_of 0x6ffffffb tags ≡ None → segment_of_kind 3 ss ≡ None → is_pie h ss tags ≡ false
unfolding is_pie
no_pie h ss tags flags interp = second_false (h.kind == 3) (has_flag 0x6ffffffb 0x8000000 tags || is_some (segment_of_kind 3 ss) && not (has_tag 14 tags)) (rw (flags, interp) refl)
