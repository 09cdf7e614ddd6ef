-- The relocations of a modest recipe are read as its plan says, and acceptance clauses 23 to 29 take them.
use Rattle.std.proofs.Common.{◌≡◌, ℕ, zero, suc, ◌+◌, ◌-◌, ◌*◌, ◌%◌, ◌^◌, ◌<◌, ◌≤◌, Bool, true, false, List, [], ◌∷◌, ◌++◌, length, map, get_or, Option, Some, None, Ok, refl, sym, ap, subst, ◌∙◌, arith, inl, inr}
use Rattle.std.specs.Prelude.{◌⊎◌, not, ◌==◌, ◌&&◌, ◌||◌, nat_lt, filter, min, position, slice_get, codes}
use Rattle.std.specs.List.{AllByRecursion, flat_map, list_any, position_or_len, range_with_len}
use Rattle.std.specs.Option.{option_map}
use Rattle.std.proofs.lemmas.Bool.{cases_Bool, cases_lt, false≢true, or_cases, or_right}
use Rattle.std.proofs.lemmas.Bool.Decides.{nat_tests}
use Rattle.std.proofs.lemmas.List.{length-map, take_all, drop_all}
use Rattle.std.proofs.lemmas.List.Sums.{fails_before_first, passes_at_first}
use Rattle.std.proofs.lemmas.List.Sorted.{IsPermutation-filter_both}
use Rattle.std.proofs.lemmas.Option.{slice_get-get_or, slice_get-map}
use Rattle.std.proofs.lemmas.Nat.{mod_below}
use Rattle.std.proofs.Math.Nat.{mod-lt}
use Rattle.pl_base.specs.Pairs.{any_pair}
use Rattle.pl_base.specs.Sums.{plus}
use Rattle.pl_base.specs.Windows.{Window, share, any_share, AllIn}
use Rattle.pl_base.proofs.PairLaws.{any_pair_permuted}
use Rattle.pl_base.proofs.SumLaws.{plus_below, plus_small, round_up-at_least}
use Rattle.pl_elf.specs.declared.segment.Segment.{Segment}
use Rattle.pl_hash.specs.Hash.{gnu}
use Rattle.pl_sym.specs.Symbol as seen
use Rattle.pl_sym.specs.declared.symbol.Symbol as read
use Rattle.pl_object.specs.FilePart.{nothing, loads_byte, loader, file_window, in_file_part}
use Rattle.pl_object.specs.PlaceClauses.{is_known, is_bad, first_bad, last_load, is_in_memory, is_held, reloc_outside, rows_of, last_packed, any_place_outside, reloc_overlap, spots, reloc_in_tables, is_odd, odd_addend, is_misplaced_copy, misplaced_copy, check_places, check_relocs}
use Rattle.pl_object.specs.Relocations.{width, relocs, place, places}
use Rattle.pl_object.specs.SymbolClauses.{is_ifunc, has_ifunc}
use Rattle.pl_object.specs.TableClauses.{meets}
use Rattle.pl_object.specs.declared.reloc.Reloc.{Reloc}
use Rattle.pl_build.specs.declared.layout.Tables.{Tables}
use Rattle.pl_build.specs.declared.line.Addend.{Addend}
use Rattle.pl_build.specs.declared.line.Relocation.{Relocation}
use Rattle.pl_build.specs.declared.line.SymbolLine.{SymbolLine}
use Rattle.pl_build.specs.declared.layout_plan.LayoutPlan.{LayoutPlan}
use Rattle.pl_build.specs.declared.recipe.Recipe.{Recipe}
use Rattle.pl_build.specs.declared.recipe.Settings.{Settings}
use Rattle.pl_build.specs.declared.roles.PlacedSection.{PlacedSection}
use Rattle.pl_build.specs.Dynamic.{place_of}
use Rattle.pl_build.specs.File.{type_of, sections_offset}
use Rattle.pl_build.specs.FileKinds.{is_position_independent}
use Rattle.pl_build.specs.Layout.{end_of}
use Rattle.pl_build.specs.LayoutPlan.{plan_of, base_of, data_address, addend_of, is_jump_slot, is_other}
use Rattle.pl_build.specs.RelocationLines.{is_no_symbol}
use Rattle.pl_build.specs.Relocations.{rela_bytes, is_written_as, number_at, symbol_number, moved_addend, rela_of, others, jump_slots}
use Rattle.pl_build.specs.Segments.{readable, first_load, second_load, dynamic_segment, has_data, data_offset}
use Rattle.pl_build.specs.Symbols.{bucket_of, bucket, is_in, is_undefined, ordered}
use Rattle.law_demo.specs.Modest.{is_word_kind, has_no_addend, IsWord, CopiesWord, IsModestRelocation, IsModestSymbol, is_at_place_of, IsModest}
use Rattle.law_demo.specs.Plain.{ArePlain, IsPlain}
use Rattle.law_demo.specs.Planned.{header_of, planned_header, planned_segments}
use Rattle.law_demo.specs.Relocs.{planned_symbols, read_as, planned_relocs, PlannedRelocsAreRead, PlannedRelocsAreTaken}
use Rattle.law_demo.specs.Rows.{FitsRela, reloc_of}
use Rattle.law_demo.specs.Symbols.{planned_symbol}
use Rattle.law_demo.proofs.ClauseLaws.{not_above, at_most, not_at_most, shown}
use Rattle.law_demo.proofs.FileLaws.{names_of}
use Rattle.law_demo.proofs.HeadLaws.{data_small, plain_settings}
use Rattle.law_demo.proofs.HeadedLaws.{IsTable, laid_tables, found_place, dynamic_there, segments_shown, there_is, parts_before}
use Rattle.law_demo.proofs.RowLaws.{relocs_read}

-- ---- tests

below_true : (a b : ℕ) → a < b → nat_lt a b ≡ true
below_true a b lt = grind (arith, nat_tests)

below_from : (a b : ℕ) → nat_lt a b ≡ true → a < b
below_from a b h = grind (arith, nat_tests)

suc_not_zero : (n : ℕ) → (suc n == 0) ≡ false
suc_not_zero n = grind (arith, nat_tests)

second_false : (a b : Bool) → b ≡ false → (a && b) ≡ false
second_false true b h = h
second_false false b h = refl

third_false : (a b c d : Bool) → c ≡ false → (a && b && c && d) ≡ false
third_false true true c d h = rw h refl
third_false true false c d h = refl
third_false false b c d h = refl

both_true : (a b : Bool) → a ≡ true → b ≡ true → (a && b) ≡ true
both_true a b x y = rw (x, y) refl

both_false : (a b : Bool) → a ≡ false → b ≡ false → (a || b) ≡ false
both_false a b x y = rw (x, y) refl

equal : (a b : ℕ) → a ≡ b → (a == b) ≡ true
equal a b e = grind (arith, nat_tests)

same_from : (a b : ℕ) → (a == b) ≡ true → a ≡ b
same_from a b h = grind (arith, nat_tests)

other_from : (a b : ℕ) → (a == b) ≡ false → (a < b) ⊎ (b < a)
other_from a b h = elim (cases_lt a b) [
  | inl below ↦ inl below
  | inr past ↦ elim (cases_lt b a) [
    | inl above ↦ inr above
    | inr near ↦ absurd (false≢true (sym h ∙ equal a b (omega (arith, past, near))))
  ]
]

-- ---- lists

all_kept : {X : Type 0} (P : X → Type 0) (q : X → Bool) (xs : List X) → AllByRecursion P xs → AllByRecursion P (filter q xs)
all_kept P q [] all = tt
all_kept P q (x ∷ xs) all = elim (cases_Bool (q x)) [
  | inl hit ↦ rw hit (all.0, all_kept P q xs all.1)
  | inr miss ↦ rw miss (all_kept P q xs all.1)
]

all_both : {X : Type 0} (P : X → Type 0) (xs ys : List X) → AllByRecursion P xs → AllByRecursion P ys → AllByRecursion P (xs ++ ys)
all_both P [] ys all more = more
all_both P (x ∷ xs) ys all more = (all.0, all_both P xs ys all.1 more)

all_at : {X : Type 0} (P : X → Type 0) (xs : List X) (i : ℕ) (d : X) → i < length xs → AllByRecursion P xs → P (get_or xs i d)
all_at P [] i d lt all = absurd (omega (arith, lt))
all_at P (x ∷ xs) zero d lt all = all.0
all_at P (x ∷ xs) (suc i) d lt all = all_at P xs i d (omega (arith, lt)) all.1

none_at : {X : Type 0} (q : X → Bool) (xs : List X) (d : X) → ((i : ℕ) → i < length xs → q (get_or xs i d) ≡ false) → list_any q xs ≡ false
none_at q [] d each = refl
none_at q (x ∷ xs) d each = rw (each 0 (omega arith), none_at q xs d (λ i lt. each (suc i) (omega (arith, lt)))) refl

-- ---- the symbol of a name

-- what stands where a list has nothing
pub nobody : SymbolLine
nobody = record { defined = false; written = []; name = []; version = []; default_version = false; file = []; bind = 0; kind = 0; visibility = 0; placed = false; offset = 0; size = 0 }

pub record IsThere (q : SymbolLine → Bool) (xs : List SymbolLine) : Type 0 where
  pub index : ℕ
  pub found : position q xs ≡ Some index
  pub within : index < length xs
  pub passes : q (get_or xs index nobody) ≡ true

pub position_there : (q : SymbolLine → Bool) (xs : List SymbolLine) → list_any q xs ≡ true → IsThere q xs
position_there q xs h =
    let k : ℕ = position_or_len q xs in
    elim (cases_lt k (length xs)) [
      | inl lt ↦ record { index = k; found = rw (below_true k (length xs) lt) refl; within = lt; passes = passes_at_first q xs nobody lt }
      | inr past ↦ absurd (false≢true (sym (none_at q xs nobody (λ i lt. fails_before_first q xs i nobody (omega (arith, lt, past)))) ∙ h))
    ]

-- where it is found, it is one of the list's
position_within : (q : SymbolLine → Bool) (xs : List SymbolLine) → length xs + 1 < 2 ^ 32 → number_at (position q xs) ≤ length xs
position_within q xs few =
    let k : ℕ = position_or_len q xs in
    elim (cases_Bool (nat_lt k (length xs))) [
      | inr none ↦ rw none (omega arith)
      | inl there ↦ let lt : k < length xs = below_from k (length xs) there in rw there (omega (arith, lt, few, plus_small k 1 (omega (arith, lt, few))))
    ]

any_first : {X : Type 0} (q : X → Bool) (xs ys : List X) → list_any q xs ≡ true → list_any q (xs ++ ys) ≡ true
any_first q [] ys h = absurd (false≢true h)
any_first q (x ∷ xs) ys h = elim (or_cases (q x) (list_any q xs) h) [
  | inl here ↦ rw here refl
  | inr later ↦ or_right (q x) (list_any q (xs ++ ys)) (any_first q xs ys later)
]

any_later : {X : Type 0} (q : X → Bool) (xs ys : List X) → list_any q ys ≡ true → list_any q (xs ++ ys) ≡ true
any_later q [] ys h = h
any_later q (x ∷ xs) ys h = or_right (q x) (list_any q (xs ++ ys)) (any_later q xs ys h)

any_kept_at : (q c : SymbolLine → Bool) (xs : List SymbolLine) (i : ℕ) → i < length xs → q (get_or xs i nobody) ≡ true → c (get_or xs i nobody) ≡ true → list_any q (filter c xs) ≡ true
any_kept_at q c [] i lt hit kept = absurd (omega (arith, lt))
any_kept_at q c (x ∷ xs) zero lt hit kept = rw (kept, hit) refl
any_kept_at q c (x ∷ xs) (suc i) lt hit kept = elim (cases_Bool (c x)) [
  | inl here ↦ rw here (or_right (q x) (list_any q (filter c xs)) (any_kept_at q c xs i (omega (arith, lt)) hit kept))
  | inr lost ↦ rw lost (any_kept_at q c xs i (omega (arith, lt)) hit kept)
]

any_in_range : (q : SymbolLine → Bool) (f : ℕ → List SymbolLine) (k n b : ℕ) → k ≤ b → b < k + n → list_any q (f b) ≡ true → list_any q (flat_map f (range_with_len k n)) ≡ true
any_in_range q f k zero b le lt h = absurd (omega (arith, le, lt))
any_in_range q f k (suc n) b le lt h = elim (cases_lt k b) [
  | inl later ↦ any_later q (f k) (flat_map f (range_with_len (k + 1) n)) (any_in_range q f (k + 1) n b (omega (arith, later)) (omega (arith, lt)) h)
  | inr near ↦
      let here : b ≡ k = omega (arith, le, near) in
      any_first q (f k) (flat_map f (range_with_len (k + 1) n)) (subst (λ (c : ℕ). list_any q (f c) ≡ true) here h)
]

bucket_small : (s : Settings) (x : SymbolLine) → 0 < s.buckets → bucket s x < s.buckets
unfolding bucket bucket_of
bucket_small s x some = elim (cases_Bool s.hashes.gnu) [
  | inr other ↦ rw other some
  | inl has ↦ rw (has, not_zero s.buckets some) (mod-lt (gnu x.name) some)
]
  where
    not_zero : (n : ℕ) → 0 < n → (n == 0) ≡ false
    not_zero n h = grind (arith, nat_tests)

own_part : (s : Settings) (x : SymbolLine) → x.defined ≡ true → is_in s (bucket s x) x ≡ true
unfolding is_in
own_part s x defined = both_true x.defined (bucket s x == bucket s x) defined (equal (bucket s x) (bucket s x) refl)

-- the order of the symbols loses none
pub any_ordered : (q : SymbolLine → Bool) (s : Settings) (symbols : List SymbolLine) → 0 < s.buckets → list_any q symbols ≡ true → list_any q (ordered s symbols) ≡ true
unfolding ordered
any_ordered q s symbols some h =
    let there : IsThere q symbols = position_there q symbols h in
    let x : SymbolLine = get_or symbols there.index nobody in
    let own : List SymbolLine = flat_map (λ b. filter (is_in s b) symbols) (range_with_len 0 s.buckets) in
    elim (cases_Bool x.defined) [
      | inr undefined ↦
          let kept : is_undefined x ≡ true = ap (λ (b : Bool). not b) undefined in
          any_first q (filter is_undefined symbols) own (any_kept_at q is_undefined symbols there.index there.within there.passes kept)
      | inl defined ↦
          let part : list_any q (filter (is_in s (bucket s x)) symbols) ≡ true = any_kept_at q (is_in s (bucket s x)) symbols there.index there.within there.passes (own_part s x defined) in
          any_later q (filter is_undefined symbols) own (any_in_range q (λ b. filter (is_in s b) symbols) 0 s.buckets (bucket s x) (omega arith) (omega (arith, bucket_small s x some)) part)
    ]

all_parts : (P : SymbolLine → Type 0) (f : ℕ → List SymbolLine) (bs : List ℕ) → ((b : ℕ) → AllByRecursion P (f b)) → AllByRecursion P (flat_map f bs)
all_parts P f [] each = tt
all_parts P f (b ∷ bs) each = all_both P (f b) (flat_map f bs) (each b) (all_parts P f bs each)

pub all_ordered : (P : SymbolLine → Type 0) (s : Settings) (symbols : List SymbolLine) → AllByRecursion P symbols → AllByRecursion P (ordered s symbols)
unfolding ordered
all_ordered P s symbols all =
    all_both P (filter is_undefined symbols) (flat_map (λ b. filter (is_in s b) symbols) (range_with_len 0 s.buckets)) (all_kept P is_undefined symbols all)
    (all_parts P (λ b. filter (is_in s b) symbols) (range_with_len 0 s.buckets) (λ b. all_kept P (is_in s b) symbols all))

-- ---- kinds

by_kind : (P : ℕ → Type 0) → P 1 → P 6 → P 7 → P 8 → (k : ℕ) → is_word_kind k ≡ true → P k
by_kind P one six seven eight k h = elim (or_cases (k == 1 || k == 6 || k == 7) (k == 8) h) [
  | inr e ↦ subst P (sym (same_from k 8 e)) eight
  | inl h3 ↦ elim (or_cases (k == 1 || k == 6) (k == 7) h3) [
    | inr e ↦ subst P (sym (same_from k 7 e)) seven
    | inl h2 ↦ elim (or_cases (k == 1) (k == 6) h2) [
      | inr e ↦ subst P (sym (same_from k 6 e)) six
      | inl e ↦ subst P (sym (same_from k 1 e)) one
    ]
  ]
]

word_known : (k : ℕ) → is_word_kind k ≡ true → is_known k ≡ true
unfolding is_known
word_known k h = by_kind (λ n. is_known n ≡ true) refl refl refl refl k h

word_small : (k : ℕ) → is_word_kind k ≡ true → k < 2 ^ 32
word_small k h = by_kind (λ n. n < 2 ^ 32) (omega arith) (omega arith) (omega arith) (omega arith) k h

word_wide : (symbols : List read.Symbol) (k n : ℕ) → is_word_kind k ≡ true → width symbols k n ≡ 8
unfolding width
word_wide symbols k n h = by_kind (λ m. width symbols m n ≡ 8) refl refl refl refl k h

word_no_copy : (k : ℕ) → is_word_kind k ≡ true → (k == 5) ≡ false
word_no_copy k h = by_kind (λ n. (n == 5) ≡ false) refl refl refl refl k h

copy_known : is_known 5 ≡ true
unfolding is_known
copy_known = refl

-- ---- of one relocation

kind_known : (r : Recipe) (x : Relocation) → IsModestRelocation r x → is_known x.kind ≡ true
kind_known r x m = elim m.form [
  | inl word ↦ word_known x.kind word.kind
  | inr copy ↦ ap is_known copy.kind ∙ copy_known
]

kind_small : (r : Recipe) (x : Relocation) → IsModestRelocation r x → x.kind < 2 ^ 32
kind_small r x m = elim m.form [
  | inl word ↦ word_small x.kind word.kind
  | inr copy ↦ omega (arith, copy.kind)
]

pub number_small : (p : LayoutPlan) (name : List ℕ) → length p.symbols + 1 < 2 ^ 32 → symbol_number p name ≤ length p.symbols
unfolding symbol_number
number_small p name few = elim (cases_Bool (is_no_symbol name)) [
  | inl none ↦ rw none (omega arith)
  | inr some ↦ rw some (position_within (is_written_as name) p.symbols few)
]

addend_small : (a : Addend) → a.magnitude < 2 ^ 64 → addend_of a < 2 ^ 64
unfolding addend_of
addend_small a small = elim (cases_Bool a.negative) [
  | inl below ↦ rw below (mod_below (0 + (2 ^ 64 - a.magnitude)) (2 ^ 64) (omega arith))
  | inr above ↦ rw above small
]

moved_small : (p : LayoutPlan) (x : Relocation) → x.addend.magnitude < 2 ^ 64 → moved_addend p x < 2 ^ 64
unfolding moved_addend
moved_small p x small = elim (cases_Bool (x.kind == 8)) [
  | inl relative ↦ rw relative (plus_below (data_address p.settings) (addend_of x.addend))
  | inr other ↦ rw other (addend_small x.addend small)
]

rela_fits : (r : Recipe) (p : LayoutPlan) (x : Relocation) → length p.symbols + 1 < 2 ^ 32 → IsModestRelocation r x → FitsRela (rela_of p x)
unfolding rela_of
rela_fits r p x few m = record {
  offset = plus_below (data_address p.settings) x.offset;
  kind = kind_small r x m;
  symbol = omega (arith, number_small p x.name few, few);
  addend = moved_small p x m.small;
}

relas_fit : (r : Recipe) (p : LayoutPlan) (rs : List Relocation) → length p.symbols + 1 < 2 ^ 32 → AllByRecursion (IsModestRelocation r) rs → AllByRecursion FitsRela (map (rela_of p) rs)
relas_fit r p [] few all = tt
relas_fit r p (x ∷ rs) few all = (rela_fits r p x few all.0, relas_fit r p rs few all.1)

-- ---- both tables are read

pub plan_relocations : (r : Recipe) → (plan_of r).relocations ≡ r.relocations
unfolding plan_of
plan_relocations r = refl

pub plan_symbols : (r : Recipe) → (plan_of r).symbols ≡ ordered r.settings r.symbols
unfolding plan_of
plan_symbols r = refl

plan_settings : (r : Recipe) → (plan_of r).settings ≡ r.settings
unfolding plan_of
plan_settings r = refl

pub modest_relocations : (r : Recipe) → IsModest r → AllByRecursion (IsModestRelocation r) (plan_of r).relocations
modest_relocations r m = subst (AllByRecursion (IsModestRelocation r)) (sym (plan_relocations r)) m.relocations

rows_of_read : (r : Recipe) (p : LayoutPlan) (rs : List Relocation) → length p.symbols + 1 < 2 ^ 32 → AllByRecursion (IsModestRelocation r) rs → relocs (planned_symbols p) (flat_map rela_bytes (map (rela_of p) rs)) ≡ read_as p rs
unfolding read_as
rows_of_read r p rs few all = relocs_read (planned_symbols p) (map (rela_of p) rs) (relas_fit r p rs few all)

pub rows_read : PlannedRelocsAreRead
unfolding others jump_slots
rows_read r m few =
    let p : LayoutPlan = plan_of r in
    record {
      others = rows_of_read r p (filter is_other p.relocations) few (all_kept (IsModestRelocation r) is_other p.relocations (modest_relocations r m));
      slots = rows_of_read r p (filter is_jump_slot p.relocations) few (all_kept (IsModestRelocation r) is_jump_slot p.relocations (modest_relocations r m));
    }

-- ---- how wide a copy is

pub copied : (r : Recipe) (x : Relocation) → IsPlain r → CopiesWord r x → IsThere (is_written_as x.name) (plan_of r).symbols
copied r x plain copy =
    position_there (is_written_as x.name) (plan_of r).symbols
    (subst (λ (l : List SymbolLine). list_any (is_written_as x.name) l ≡ true) (sym (plan_symbols r)) (any_ordered (is_written_as x.name) r.settings r.symbols plain.settings.some_buckets copy.known))

pub copied_number : (r : Recipe) (x : Relocation) (there : IsThere (is_written_as x.name) (plan_of r).symbols) → length (plan_of r).symbols + 1 < 2 ^ 32 → is_no_symbol x.name ≡ false → symbol_number (plan_of r) x.name ≡ suc there.index
unfolding symbol_number
copied_number r x there few named =
    let small : plus there.index 1 ≡ there.index + 1 = plus_small there.index 1 (omega (arith, there.within, few)) in
    let sum : plus there.index 1 ≡ suc there.index = omega (arith, small) in
    rw (named, there.found) sum

pub copied_size : (r : Recipe) (x : Relocation) → CopiesWord r x → (there : IsThere (is_written_as x.name) (plan_of r).symbols) → (get_or (plan_of r).symbols there.index nobody).size ≡ 8
copied_size r x copy there =
    let sizes : AllByRecursion (IsWord x.name) (plan_of r).symbols = subst (AllByRecursion (IsWord x.name)) (sym (plan_symbols r)) (all_ordered (IsWord x.name) r.settings r.symbols copy.sizes) in
    all_at (IsWord x.name) (plan_of r).symbols there.index nobody there.within sizes there.passes

copy_wide : (r : Recipe) (x : Relocation) → IsPlain r → length (plan_of r).symbols + 1 < 2 ^ 32 → CopiesWord r x → width (planned_symbols (plan_of r)) x.kind (symbol_number (plan_of r) x.name) ≡ 8
unfolding width planned_symbol
copy_wide r x plain few copy =
    let p : LayoutPlan = plan_of r in
    let there : IsThere (is_written_as x.name) p.symbols = copied r x plain copy in
    let at : slice_get (map (planned_symbol p) p.symbols) there.index ≡ Some (planned_symbol p (get_or p.symbols there.index nobody)) =
    slice_get-map (planned_symbol p) p.symbols there.index ∙ ap (λ (o : Option SymbolLine). option_map (planned_symbol p) o) (slice_get-get_or p.symbols there.index nobody there.within) in
    rw (copy.kind, copied_number r x there few copy.named, at) (copied_size r x copy there)

-- ---- the place of a relocation: a word, so far behind the beginning of the data

abbrev pub word_at : Settings → ℕ → Window
word_at s offset = record { at = data_address s + offset; size = 8 }

wide : (r : Recipe) (x : Relocation) → IsPlain r → length (plan_of r).symbols + 1 < 2 ^ 32 → IsModestRelocation r x → width (planned_symbols (plan_of r)) x.kind (symbol_number (plan_of r) x.name) ≡ 8
wide r x plain few m = elim m.form [
  | inl word ↦ word_wide (planned_symbols (plan_of r)) x.kind (symbol_number (plan_of r) x.name) word.kind
  | inr copy ↦ copy_wide r x plain few copy
]

-- it ends where the zeros behind the data do
ends : (r : Recipe) (x : Relocation) → IsModestRelocation r x → x.offset + 8 ≤ r.settings.data_size + r.settings.bss
ends r x m = elim m.form [
  | inl word ↦ omega (arith, word.within)
  | inr copy ↦ copy.within
]

window_of : ℕ → ℕ → Window
window_of at size = record { at = at; size = size }

place_is : (r : Recipe) (x : Relocation) → IsPlain r → length (plan_of r).symbols + 1 < 2 ^ 32 → IsModestRelocation r x → place (reloc_of (planned_symbols (plan_of r)) (rela_of (plan_of r) x)) ≡ word_at (plan_of r).settings x.offset
unfolding reloc_of rela_of window_of
place_is r x plain few m =
    let s : Settings = (plan_of r).settings in
    let at : plus (data_address s) x.offset ≡ data_address s + x.offset = plus_small (data_address s) x.offset (omega (arith, data_small s, ends r x m, plain.settings.few_data, plain.settings.few_bss)) in
    ap (λ (n : ℕ). window_of (plus (data_address s) x.offset) n) (wide r x plain few m) ∙ ap (λ (n : ℕ). window_of n 8) at

places_are : (r : Recipe) (rs : List Relocation) → IsPlain r → length (plan_of r).symbols + 1 < 2 ^ 32 → AllByRecursion (IsModestRelocation r) rs → places (read_as (plan_of r) rs) ≡ map (λ x. word_at (plan_of r).settings x.offset) rs
unfolding read_as
places_are r [] plain few all = refl
places_are r (x ∷ rs) plain few all =
    let s : Settings = (plan_of r).settings in
    ap (λ (w : Window). w ∷ places (map (reloc_of (planned_symbols (plan_of r))) (map (rela_of (plan_of r)) rs))) (place_is r x plain few all.0)
    ∙ ap (λ (ws : List Window). word_at s x.offset ∷ ws) (places_are r rs plain few all.1)

-- ---- the segments

abbrev segments_of : Settings → ℕ → PlacedSection → List Segment
segments_of s tables_end dynamic = shown (has_data s) (first_load s tables_end) (second_load s tables_end) (dynamic_segment dynamic)

abbrev with_data : Settings → ℕ → PlacedSection → List Segment
with_data s tables_end dynamic = first_load s tables_end ∷ second_load s tables_end ∷ dynamic_segment dynamic ∷ []

data_there : (s : Settings) → 0 < s.data_size + s.bss → has_data s ≡ true
unfolding has_data
data_there s some = elim (cases_lt 0 s.data_size) [
  | inl data_some ↦ rw (below_true 0 s.data_size data_some) refl
  | inr none ↦ or_right (nat_lt 0 s.data_size) (nat_lt 0 s.bss) (below_true 0 s.bss (omega (arith, some, none)))
]

segments_are : (s : Settings) (tables_end : ℕ) (dynamic : PlacedSection) → 0 < s.data_size + s.bss → segments_of s tables_end dynamic ≡ with_data s tables_end dynamic
segments_are s tables_end dynamic some = ap (λ (b : Bool). shown b (first_load s tables_end) (second_load s tables_end) (dynamic_segment dynamic)) (data_there s some)

first_misses : (s : Settings) (tables_end offset : ℕ) → tables_end ≤ 1048576 → loads_byte (data_address s + offset) (first_load s tables_end) ≡ false
unfolding loads_byte first_load readable data_address
first_misses s tables_end offset le =
    rw (at_most (base_of s) (base_of s + 1048576 + offset) (omega arith), not_above (base_of s + tables_end) (base_of s + 1048576 + offset) (omega (arith, le))) refl

second_hits : (s : Settings) (tables_end offset : ℕ) → offset < s.data_size → loads_byte (data_address s + offset) (second_load s tables_end) ≡ true
unfolding loads_byte second_load
second_hits s tables_end offset lt =
    rw (at_most (data_address s) (data_address s + offset) (omega arith), below_true (data_address s + offset) (data_address s + s.data_size) (omega (arith, lt))) refl

second_misses : (s : Settings) (tables_end offset : ℕ) → s.data_size ≤ offset → loads_byte (data_address s + offset) (second_load s tables_end) ≡ false
unfolding loads_byte second_load
second_misses s tables_end offset le =
    rw (at_most (data_address s) (data_address s + offset) (omega arith), not_above (data_address s + s.data_size) (data_address s + offset) (omega (arith, le))) refl

pub dynamic_misses : (dynamic : PlacedSection) (address : ℕ) → loads_byte address (dynamic_segment dynamic) ≡ false
unfolding loads_byte dynamic_segment readable
dynamic_misses dynamic address = refl

data_window : (s : Settings) (tables_end offset size : ℕ) (dynamic : PlacedSection) → tables_end ≤ 1048576 → offset < s.data_size
    → file_window (with_data s tables_end dynamic) (record { at = data_address s + offset; size = size }) ≡ record { at = data_offset tables_end + offset; size = min size (s.data_size - offset) }
unfolding file_window second_load window_of
data_window s tables_end offset size dynamic le lt =
    let found : loader (with_data s tables_end dynamic) (data_address s + offset) ≡ Some (second_load s tables_end) = rw (first_misses s tables_end offset le, second_hits s tables_end offset lt) refl in
    let at : data_address s + offset - data_address s ≡ offset = omega arith in
    let left : data_address s + s.data_size - (data_address s + offset) ≡ s.data_size - offset = omega arith in
    rw found
    (ap (λ (n : ℕ). window_of (data_offset tables_end + n) (min size (data_address s + s.data_size - (data_address s + offset)))) at
    ∙ ap (λ (n : ℕ). window_of (data_offset tables_end + offset) (min size n)) left)

no_window : (s : Settings) (tables_end offset size : ℕ) (dynamic : PlacedSection) → tables_end ≤ 1048576 → s.data_size ≤ offset → file_window (with_data s tables_end dynamic) (record { at = data_address s + offset; size = size }) ≡ nothing
unfolding file_window
no_window s tables_end offset size dynamic le past =
    let none : loader (with_data s tables_end dynamic) (data_address s + offset) ≡ None = rw (first_misses s tables_end offset le, second_misses s tables_end offset past, dynamic_misses dynamic (data_address s + offset)) refl in
    rw none refl

last_is : (s : Settings) (tables_end : ℕ) (dynamic : PlacedSection) → last_load (with_data s tables_end dynamic) ≡ Some (second_load s tables_end)
unfolding last_load first_load second_load dynamic_segment readable
last_is s tables_end dynamic = refl

-- ---- clause 24

in_file : (s : Settings) (tables_end offset : ℕ) (dynamic : PlacedSection) → tables_end ≤ 1048576 → offset + 8 ≤ s.data_size → in_file_part (with_data s tables_end dynamic) (word_at s offset) ≡ true
unfolding in_file_part
in_file s tables_end offset dynamic le within =
    let size : min 8 (s.data_size - offset) ≡ 8 = omega (arith, within) in
    ap (λ (w : Window). w.size == 8) (data_window s tables_end offset 8 dynamic le (omega (arith, within))) ∙ ap (λ (n : ℕ). n == 8) size

in_zeros : (s : Settings) (tables_end offset : ℕ) (dynamic : PlacedSection) → ArePlain s → offset + 8 ≤ s.data_size + s.bss → is_in_memory (word_at s offset) (last_load (with_data s tables_end dynamic)) ≡ true
unfolding second_load
in_zeros s tables_end offset dynamic plain within =
    let sum : plus s.data_size s.bss ≡ s.data_size + s.bss = plus_small s.data_size s.bss (omega (arith, plain.few_data, plain.few_bss)) in
    ap (is_in_memory (word_at s offset)) (last_is s tables_end dynamic)
    ∙ (rw (at_most (data_address s) (data_address s + offset) (omega arith), at_most (data_address s + offset + 8) (data_address s + plus s.data_size s.bss) (omega (arith, within, sum))) refl)

word_held : (s : Settings) (program : Bool) (tables_end offset : ℕ) (dynamic : PlacedSection) → ArePlain s → tables_end ≤ 1048576 → (offset + 8 ≤ s.data_size) ⊎ ((program ≡ true) × (offset + 8 ≤ s.data_size + s.bss)) → is_held program (with_data s tables_end dynamic) (word_at s offset) ≡ true
unfolding is_held
word_held s program tables_end offset dynamic plain le (inl word) = rw (in_file s tables_end offset dynamic le word) refl
word_held s program tables_end offset dynamic plain le (inr copy) =
    let memory : Bool = is_in_memory (word_at s offset) (last_load (with_data s tables_end dynamic)) in
    or_right (in_file_part (with_data s tables_end dynamic) (word_at s offset)) (program && memory) (both_true program memory copy.0 (in_zeros s tables_end offset dynamic plain copy.1))

-- where it may be: in the data, or in a program in the zeros behind it
abbrev IsPlaced : Bool → Settings → ℕ → Type 0
IsPlaced program s offset = (offset + 8 ≤ s.data_size) ⊎ ((program ≡ true) × (offset + 8 ≤ s.data_size + s.bss))

some_data : (program : Bool) (s : Settings) (offset : ℕ) → IsPlaced program s offset → 0 < s.data_size + s.bss
some_data program s offset (inl word) = omega (arith, word)
some_data program s offset (inr copy) = omega (arith, copy.1)

abbrev words_at : Settings → List Relocation → List Window
words_at s rs = map (λ x. word_at s x.offset) rs

none_outside : (s : Settings) (program : Bool) (tables_end : ℕ) (dynamic : PlacedSection) (rs : List Relocation) → ArePlain s → tables_end ≤ 1048576 → AllByRecursion (λ x. IsPlaced program s x.offset) rs
    → list_any (λ memory. not (is_held program (segments_of s tables_end dynamic) memory)) (words_at s rs) ≡ false
none_outside s program tables_end dynamic [] plain le all = refl
none_outside s program tables_end dynamic (x ∷ rs) plain le all =
    let held : is_held program (segments_of s tables_end dynamic) (word_at s x.offset) ≡ true =
    ap (λ (ss : List Segment). is_held program ss (word_at s x.offset)) (segments_are s tables_end dynamic (some_data program s x.offset all.0)) ∙ word_held s program tables_end x.offset dynamic plain le all.0 in
    rw (held, none_outside s program tables_end dynamic rs plain le all.1) refl

-- ---- clause 25

apart : (a o q : ℕ) → o % 8 ≡ 0 → q % 8 ≡ 0 → (o == q) ≡ false → share (record { at = a + o; size = 8 }) (record { at = a + q; size = 8 }) ≡ false
apart a o q even also other = elim (other_from o q other) [
  | inl before ↦ elim (cases_Bool (nat_lt (a + o) (a + q + 8))) [
    | inl lt ↦ rw (lt, not_above (a + o + 8) (a + q) (omega (arith, even, also, before))) refl
    | inr ge ↦ rw ge refl
  ]
  | inr behind ↦ rw (not_above (a + q + 8) (a + o) (omega (arith, even, also, behind))) refl
]

one_apart : (s : Settings) (x : Relocation) (rs : List Relocation) → x.offset % 8 ≡ 0 → AllByRecursion (λ y. y.offset % 8 ≡ 0) rs → list_any (is_at_place_of x) rs ≡ false → list_any (share (word_at s x.offset)) (words_at s rs) ≡ false
one_apart s x [] even all other = refl
one_apart s x (y ∷ rs) even all other = elim (cases_Bool (x.offset == y.offset)) [
  | inl same ↦ absurd (false≢true (sym (rw same at other)))
  | inr differ ↦ rw (apart (data_address s) x.offset y.offset even all.0 differ, one_apart s x rs even all.1 (rw differ at other)) refl
]

all_apart : (s : Settings) (rs : List Relocation) → AllByRecursion (λ y. y.offset % 8 ≡ 0) rs → any_pair is_at_place_of rs ≡ false → any_share (words_at s rs) ≡ false
all_apart s [] all other = refl
all_apart s (x ∷ rs) all other = elim (cases_Bool (list_any (is_at_place_of x) rs)) [
  | inl same ↦ absurd (false≢true (sym (rw same at other)))
  | inr differ ↦ rw (one_apart s x rs all.0 all.1 differ, all_apart s rs all.1 (rw differ at other)) refl
]

turned : (x y : Relocation) → is_at_place_of x y ≡ is_at_place_of y x
turned x y = grind (arith, nat_tests)

slots_are : (x : Relocation) → is_jump_slot x ≡ not (is_other x)
slots_are x = elim (cases_Bool (is_jump_slot x)) [
  | inl slot ↦ rw slot refl
  | inr other ↦ rw other refl
]

apart_in_order : (rs : List Relocation) → any_pair is_at_place_of rs ≡ false → any_pair is_at_place_of (filter is_other rs ++ filter is_jump_slot rs) ≡ false
apart_in_order rs other =
    sym (any_pair_permuted is_at_place_of turned rs (filter is_other rs ++ filter is_jump_slot rs) (IsPermutation-filter_both is_other is_jump_slot slots_are rs)) ∙ other

-- ---- clause 26

-- a window that is empty, or lies in the data
abbrev InData : Settings → ℕ → Window → Type 0
InData s tables_end w = (w.size ≡ 0) ⊎ ((data_offset tables_end ≤ w.at) × (w.at + w.size ≤ data_offset tables_end + s.data_size))

spot_in : (s : Settings) (tables_end offset : ℕ) (dynamic : PlacedSection) → tables_end ≤ 1048576 → InData s tables_end (file_window (with_data s tables_end dynamic) (word_at s offset))
spot_in s tables_end offset dynamic le = elim (cases_lt offset s.data_size) [
  | inl inside ↦ subst (InData s tables_end) (sym (data_window s tables_end offset 8 dynamic le inside)) (inr (omega arith, omega (arith, inside)))
  | inr past ↦ subst (InData s tables_end) (sym (no_window s tables_end offset 8 dynamic le past)) (inl refl)
]

-- a window that ends before the data, or begins behind it
abbrev OffData : Settings → ℕ → Window → Type 0
OffData s tables_end w = (w.at + w.size ≤ data_offset tables_end) ⊎ (data_offset tables_end + s.data_size ≤ w.at)

not_shared : (s : Settings) (tables_end : ℕ) (v w : Window) → InData s tables_end v → OffData s tables_end w → share v w ≡ false
not_shared s tables_end v w (inl none) off =
    let empty : nat_lt 0 v.size ≡ false = not_above v.size 0 (omega (arith, none)) in
    third_false (nat_lt v.at (w.at + w.size)) (nat_lt w.at (v.at + v.size)) (nat_lt 0 v.size) (nat_lt 0 w.size) empty
not_shared s tables_end v w (inr inside) (inl before) = rw (not_above (w.at + w.size) v.at (omega (arith, inside.0, before))) refl
not_shared s tables_end v w (inr inside) (inr behind) = elim (cases_Bool (nat_lt v.at (w.at + w.size))) [
  | inl lt ↦ rw (lt, not_above (v.at + v.size) w.at (omega (arith, inside.1, behind))) refl
  | inr ge ↦ rw ge refl
]

none_met : (s : Settings) (tables_end : ℕ) (v : Window) (ws : List Window) → InData s tables_end v → AllByRecursion (OffData s tables_end) ws → list_any (share v) ws ≡ false
none_met s tables_end v [] inside all = refl
none_met s tables_end v (w ∷ ws) inside all = rw (not_shared s tables_end v w inside all.0, none_met s tables_end v ws inside all.1) refl

spots_clear : (s : Settings) (program : Bool) (tables_end : ℕ) (dynamic : PlacedSection) (ws : List Window) (rs : List Relocation) → tables_end ≤ 1048576 → AllByRecursion (λ x. IsPlaced program s x.offset) rs → AllByRecursion (OffData s tables_end) ws
    → list_any (meets ws) (map (file_window (segments_of s tables_end dynamic)) (words_at s rs)) ≡ false
spots_clear s program tables_end dynamic ws [] le placed off = refl
spots_clear s program tables_end dynamic ws (x ∷ rs) le placed off =
    let inside : InData s tables_end (file_window (segments_of s tables_end dynamic) (word_at s x.offset)) =
    subst (λ (ss : List Segment). InData s tables_end (file_window ss (word_at s x.offset))) (sym (segments_are s tables_end dynamic (some_data program s x.offset placed.0))) (spot_in s tables_end x.offset dynamic le) in
    rw (none_met s tables_end (file_window (segments_of s tables_end dynamic) (word_at s x.offset)) ws inside off, spots_clear s program tables_end dynamic ws rs le placed.1 off) refl

windows_off : (s : Settings) (tables_end : ℕ) (ws : List Window) → AllIn tables_end ws → AllByRecursion (OffData s tables_end) ws
windows_off s tables_end [] all = tt
windows_off s tables_end (w ∷ ws) all = (inl (omega (arith, all.0, round_up-at_least tables_end 4096 (omega arith))), windows_off s tables_end ws all.1)

-- ---- clauses 23, 27 and 29

none_bad : (r : Recipe) (rs : List Relocation) → length (plan_of r).symbols + 1 < 2 ^ 32 → AllByRecursion (IsModestRelocation r) rs → first_bad (length (planned_symbols (plan_of r))) (read_as (plan_of r) rs) ≡ None
unfolding first_bad is_bad read_as reloc_of rela_of
none_bad r [] few all = refl
none_bad r (x ∷ rs) few all =
    let p : LayoutPlan = plan_of r in
    let count : length (planned_symbols p) ≡ length p.symbols + 1 = omega (arith, length-map p.symbols (planned_symbol p)) in
    rw (kind_known r x all.0, not_at_most (length (planned_symbols p)) (symbol_number p x.name) (omega (arith, count, number_small p x.name few)), none_bad r rs few all.1) refl

-- an addend that is 0, where there is to be none
odd_not : (p : LayoutPlan) (x : Relocation) → (has_no_addend x.kind ≡ true → addend_of x.addend ≡ 0) → is_odd (reloc_of (planned_symbols p) (rela_of p x)) ≡ false
unfolding is_odd reloc_of rela_of moved_addend
odd_not p x plain = elim (cases_Bool (has_no_addend x.kind)) [
  | inr other ↦ rw other refl
  | inl none ↦
      let kind : (x.kind == 8) ≡ false = no_relative x.kind none in
      rw (none, kind, plain none) refl
]
  where
    no_relative : (k : ℕ) → has_no_addend k ≡ true → (k == 8) ≡ false
    no_relative k h = elim (or_cases (k == 6 || k == 7) (k == 5) h) [
      | inr e ↦ rw (same_from k 5 e) refl
      | inl h2 ↦ elim (or_cases (k == 6) (k == 7) h2) [
        | inr e ↦ rw (same_from k 7 e) refl
        | inl e ↦ rw (same_from k 6 e) refl
      ]
    ]

none_odd : (r : Recipe) (rs : List Relocation) → AllByRecursion (IsModestRelocation r) rs → odd_addend (read_as (plan_of r) rs) ≡ false
unfolding odd_addend read_as
none_odd r [] all = refl
none_odd r (x ∷ rs) all = rw (odd_not (plan_of r) x all.0.plain, none_odd r rs all.1) refl

program_is : (r : Recipe) → is_position_independent r.settings.kind ≡ false → (type_of (plan_of r).settings == 2) ≡ true
unfolding type_of plan_of
program_is r fixed = rw fixed refl

copy_placed : (r : Recipe) (x : Relocation) → IsPlain r → length (plan_of r).symbols + 1 < 2 ^ 32 → IsModestRelocation r x → is_misplaced_copy (type_of (plan_of r).settings == 2) (reloc_of (planned_symbols (plan_of r)) (rela_of (plan_of r) x)) ≡ false
unfolding is_misplaced_copy reloc_of rela_of
copy_placed r x plain few m = elim m.form [
  | inl word ↦ rw (word_no_copy x.kind word.kind) refl
  | inr copy ↦
      let there : IsThere (is_written_as x.name) (plan_of r).symbols = copied r x plain copy in
      rw (copy.kind, program_is r copy.program, copied_number r x there few copy.named, suc_not_zero there.index) refl
]

copies_placed : (r : Recipe) (rs : List Relocation) → IsPlain r → length (plan_of r).symbols + 1 < 2 ^ 32 → AllByRecursion (IsModestRelocation r) rs → misplaced_copy (type_of (plan_of r).settings == 2) (read_as (plan_of r) rs) ≡ false
unfolding misplaced_copy read_as
copies_placed r [] plain few all = refl
copies_placed r (x ∷ rs) plain few all = rw (copy_placed r x plain few all.0, copies_placed r rs plain few all.1) refl

-- ---- clause 28

no_function : (p : LayoutPlan) (s : Settings) (x : SymbolLine) → IsModestSymbol s x → is_ifunc (planned_symbol p x) ≡ false
unfolding is_ifunc planned_symbol
no_function p s x m =
    let other : (x.kind == 10) ≡ false = elim m.form [
      | inl own ↦ elim own.kind [
        | inl object ↦ rw object refl
        | inr function ↦ rw function refl
      ]
      | inr weak ↦ rw weak.kind refl
    ] in
    second_false (not (seen.is_undefined (planned_symbol p x))) (x.kind == 10) other

no_functions : (p : LayoutPlan) (s : Settings) (symbols : List SymbolLine) → AllByRecursion (IsModestSymbol s) symbols → list_any is_ifunc (map (planned_symbol p) symbols) ≡ false
no_functions p s [] all = refl
no_functions p s (x ∷ symbols) all = rw (no_function p s x all.0, no_functions p s symbols all.1) refl

-- ---- all of them

placed_of : (r : Recipe) (x : Relocation) → IsModestRelocation r x → IsPlaced (type_of (plan_of r).settings == 2) (plan_of r).settings x.offset
unfolding plan_of
placed_of r x m = elim m.form [
  | inl word ↦ inl word.within
  | inr copy ↦ inr (program_is r copy.program, copy.within)
]

all_placed : (r : Recipe) (rs : List Relocation) → AllByRecursion (IsModestRelocation r) rs → AllByRecursion (λ x. IsPlaced (type_of (plan_of r).settings == 2) (plan_of r).settings x.offset) rs
all_placed r [] all = tt
all_placed r (x ∷ rs) all = (placed_of r x all.0, all_placed r rs all.1)

all_aligned : (r : Recipe) (rs : List Relocation) → AllByRecursion (IsModestRelocation r) rs → AllByRecursion (λ x. x.offset % 8 ≡ 0) rs
all_aligned r [] all = tt
all_aligned r (x ∷ rs) all = (all.0.aligned, all_aligned r rs all.1)

abbrev pub in_order : List Relocation → List Relocation
in_order rs = filter is_other rs ++ filter is_jump_slot rs

read_append : (p : LayoutPlan) (xs ys : List Relocation) → read_as p xs ++ read_as p ys ≡ read_as p (xs ++ ys)
unfolding read_as
read_append p [] ys = refl
read_append p (x ∷ xs) ys = ap (λ (l : List Reloc). reloc_of (planned_symbols p) (rela_of p x) ∷ l) (read_append p xs ys)

pub planned_as : (p : LayoutPlan) → planned_relocs p ≡ read_as p (in_order p.relocations)
unfolding planned_relocs
planned_as p = read_append p (filter is_other p.relocations) (filter is_jump_slot p.relocations)

pub kind_is : (p : LayoutPlan) (t : Tables) → (planned_header p t).kind ≡ type_of p.settings
unfolding planned_header header_of
kind_is p t = refl

shoff_is : (p : LayoutPlan) (t : Tables) → (planned_header p t).shoff ≡ sections_offset p (end_of t) (names_of p)
unfolding planned_header header_of
shoff_is p t = refl

none_packed : (ss : List Segment) → reloc_outside false ss [] ≡ false
unfolding reloc_outside
none_packed ss = refl

-- of relocations of which these things are known
places_taken : (program : Bool) (ss : List Segment) (ws : List Window) (count : ℕ) (rs : List Reloc) → first_bad count rs ≡ None → reloc_outside program ss rs ≡ false → reloc_overlap rs ≡ false → reloc_in_tables ws ss rs ≡ false → odd_addend rs ≡ false
    → check_relocs program ss ws count 0 rs ≡ Ok tt
unfolding check_relocs check_places any_place_outside
places_taken program ss ws count rs good outside overlap clear plain =
    let rows : rows_of 0 rs ≡ rs = take_all (length rs - 0) rs (omega arith) in
    let packed : last_packed 0 rs ≡ [] = drop_all (length rs - 0) rs (omega arith) in
    let held : (reloc_outside program ss (rows_of 0 rs) || reloc_outside false ss (last_packed 0 rs)) ≡ false =
    ap (λ (l : List Reloc). reloc_outside program ss l || reloc_outside false ss (last_packed 0 rs)) rows
    ∙ ap (λ (l : List Reloc). reloc_outside program ss rs || reloc_outside false ss l) packed
    ∙ both_false (reloc_outside program ss rs) (reloc_outside false ss []) outside (none_packed ss) in
    rw (good, held, overlap, clear, plain) refl

-- by a plan whose segments these are
by_places : (r : Recipe) (tables_end : ℕ) (dynamic : PlacedSection) (ws : List Window) → IsPlain r → IsModest r → tables_end ≤ 1048576 → length (plan_of r).symbols + 1 < 2 ^ 32 → AllByRecursion (OffData (plan_of r).settings tables_end) ws
    → check_relocs (type_of (plan_of r).settings == 2) (segments_of (plan_of r).settings tables_end dynamic) ws (length (planned_symbols (plan_of r))) 0 (read_as (plan_of r) (in_order (plan_of r).relocations)) ≡ Ok tt
unfolding reloc_outside reloc_overlap reloc_in_tables spots
by_places r tables_end dynamic ws plain m le few off =
    let p : LayoutPlan = plan_of r in
    let program : Bool = type_of p.settings == 2 in
    let rs : List Relocation = in_order p.relocations in
    let own = modest_relocations r m in
    let all : AllByRecursion (IsModestRelocation r) rs = all_both (IsModestRelocation r) (filter is_other p.relocations) (filter is_jump_slot p.relocations) (all_kept (IsModestRelocation r) is_other p.relocations own) (all_kept (IsModestRelocation r) is_jump_slot p.relocations own) in
    let there : places (read_as p rs) ≡ words_at p.settings rs = places_are r rs plain few all in
    let ss : List Segment = segments_of p.settings tables_end dynamic in
    let other : any_pair is_at_place_of p.relocations ≡ false = ap (any_pair is_at_place_of) (plan_relocations r) ∙ m.places in
    places_taken program ss ws (length (planned_symbols p)) (read_as p rs)
    (none_bad r rs few all)
    (ap (list_any (λ memory. not (is_held program ss memory))) there ∙ none_outside p.settings program tables_end dynamic rs (plain_settings r plain) le (all_placed r rs all))
    (ap any_share there ∙ all_apart p.settings rs (all_aligned r rs all) (apart_in_order p.relocations other))
    (ap (λ (l : List Window). list_any (meets ws) (map (file_window ss) l)) there ∙ spots_clear p.settings program tables_end dynamic ws rs le (all_placed r rs all) off)
    (none_odd r rs all)

pub relocs_taken : PlannedRelocsAreTaken
unfolding has_ifunc is_ifunc seen.is_undefined
relocs_taken r t windows plain m e few low =
    let p : LayoutPlan = plan_of r in
    let rows = laid_tables p t e in
    let place : PlacedSection = place_of t.places (codes ".dynamic") in
    let d : IsTable (end_of t) place = found_place (IsTable (end_of t)) (codes ".dynamic") t.places rows.1 (dynamic_there r t plain e) in
    let shown_so = segments_shown p t (plain_settings r plain) (there_is place d.some) in
    let behind : data_offset (end_of t) + p.settings.data_size ≤ (planned_header p t).shoff = omega (arith, parts_before p t, shoff_is p t) in
    let off : AllByRecursion (OffData p.settings (end_of t)) (record { at = (planned_header p t).shoff; size = 64 * (planned_header p t).shnum } ∷ windows) = (inr behind, windows_off p.settings (end_of t) windows low) in
    let rs : List Relocation = in_order p.relocations in
    let own = modest_relocations r m in
    let all : AllByRecursion (IsModestRelocation r) rs = all_both (IsModestRelocation r) (filter is_other p.relocations) (filter is_jump_slot p.relocations) (all_kept (IsModestRelocation r) is_other p.relocations own) (all_kept (IsModestRelocation r) is_jump_slot p.relocations own) in
    let symbols : AllByRecursion (IsModestSymbol r.settings) p.symbols = subst (AllByRecursion (IsModestSymbol r.settings)) (sym (plan_symbols r)) (all_ordered (IsModestSymbol r.settings) r.settings r.symbols m.symbols) in
    let ws : List Window = record { at = (planned_header p t).shoff; size = 64 * (planned_header p t).shnum } ∷ windows in
    record {
      places =
          ap (λ (k : ℕ). check_relocs (k == 2) (planned_segments p t) ws (length (planned_symbols p)) 0 (planned_relocs p)) (kind_is p t)
          ∙ ap (λ (ss : List Segment). check_relocs (type_of p.settings == 2) ss ws (length (planned_symbols p)) 0 (planned_relocs p)) shown_so
          ∙ ap (λ (l : List Reloc). check_relocs (type_of p.settings == 2) (segments_of p.settings (end_of t) place) ws (length (planned_symbols p)) 0 l) (planned_as p)
          ∙ by_places r (end_of t) place ws plain m rows.0 few off;
      functions = no_functions p r.settings p.symbols symbols;
      copies =
          ap (λ (k : ℕ). misplaced_copy (k == 2) (planned_relocs p)) (kind_is p t)
          ∙ ap (misplaced_copy (type_of p.settings == 2)) (planned_as p)
          ∙ copies_placed r rs plain few all;
    }
