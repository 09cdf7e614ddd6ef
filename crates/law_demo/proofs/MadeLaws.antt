-- Small recipes have files.
use Rattle.std.proofs.Common.{◌≡◌, ℕ, ◌+◌, ◌-◌, ◌*◌, ◌≤◌, Bool, true, List, [], ◌∷◌, ◌++◌, length, map, replicate, Ok, refl, sym, ap, subst, ◌∙◌, length-append, arith, inl, inr}
use Rattle.std.specs.Prelude.{not, ◌==◌, nat_le, filter}
use Rattle.std.specs.List.{AllByRecursion, list_any, range_with_len}
use Rattle.std.proofs.lemmas.Bool.{cases_Bool}
use Rattle.std.proofs.lemmas.Bool.Decides.{nat_tests}
use Rattle.std.proofs.lemmas.List.{length-map, length-replicate}
use Rattle.std.proofs.lemmas.List.FromFn.{length-range_with_len}
use Rattle.std.proofs.lemmas.List.Filters.{length-filter_both}
use Rattle.std.proofs.lemmas.List.Sorted.{length_permutation}
use Rattle.pl_base.specs.Each.{run}
use Rattle.pl_base.specs.Names.{is_valid_name}
use Rattle.pl_base.specs.Sums.{round_up}
use Rattle.pl_base.proofs.NameLaws.{valid_length}
use Rattle.pl_base.proofs.SumLaws.{round_up-near, round_up-at_least}
use Rattle.pl_dyn.specs.declared.tags.Tag.{Tag}
use Rattle.pl_hash.specs.Hash.{sysv}
use Rattle.pl_build.specs.declared.fields.Field.TheVariants.{Word, Xword}
use Rattle.pl_build.specs.declared.layout.Tables.{Tables}
use Rattle.pl_build.specs.declared.line.Relocation.{Relocation}
use Rattle.pl_build.specs.declared.line.SymbolLine.{SymbolLine}
use Rattle.pl_build.specs.declared.layout_plan.LayoutPlan.{LayoutPlan}
use Rattle.pl_build.specs.declared.recipe.Recipe.{Recipe}
use Rattle.pl_build.specs.declared.recipe.Settings.{Settings}
use Rattle.pl_build.specs.declared.roles.PlacedSection.{PlacedSection}
use Rattle.pl_build.specs.declared.roles.Role.{Role}
use Rattle.pl_build.specs.declared.roles.Role.TheVariants.{Hash, GnuHash, Dynsym, Dynstr, RelaDyn, RelaPlt, Dynamic}
use Rattle.pl_build.specs.declared.string_table.StringTable.{StringTable}
use Rattle.pl_build.specs.Choices.{chosen}
use Rattle.pl_build.specs.Dynamic.{tag_bytes, end_tag, needed_tags, spare_tags, dynamic_table}
use Rattle.pl_build.specs.Fields.{field_bytes, fields}
use Rattle.pl_build.specs.File.{made, limited, parts_end, sections_offset, file_end, file_of}
use Rattle.pl_build.specs.HashTables.{is_defined, hash_of, gnu_hashes, gnu_buckets, bloom, sysv_buckets, first_from, next_after, gnu_first, gnu_chain, sysv_words, sysv_table, gnu_words, gnu_table, symoffset}
use Rattle.pl_build.specs.Layout.{contents, filled_to, aligned, table_added, end_of, in_limit, role_added, no_tables, tables}
use Rattle.pl_build.specs.LayoutPlan.{plan_of, is_jump_slot, is_other}
use Rattle.pl_build.specs.Relocations.{rela_of, others, jump_slots}
use Rattle.pl_build.specs.Segments.{data_offset}
use Rattle.pl_build.specs.StringTable.{start, text_added, texts_added, symbol_added, symbols_added}
use Rattle.pl_build.specs.SymbolTable.{entry_of, null_entry, symbol_table}
use Rattle.pl_build.specs.Symbols.{bucket_of, ordered}
use Rattle.law_demo.specs.Made.{IsBounded, BoundedIsMade}
use Rattle.law_demo.specs.Modest.{IsModestSymbol, IsValidName, IsModest}
use Rattle.law_demo.specs.Plain.{ArePlain, IsPlain}
use Rattle.law_demo.specs.Tags.{planned_tags}
use Rattle.law_demo.proofs.BackLaws.{rows_long}
use Rattle.law_demo.proofs.ClauseLaws.{not_above}
use Rattle.law_demo.proofs.FileLaws.{names_of}
use Rattle.law_demo.proofs.FoundLaws.{ordered_permutes}
use Rattle.law_demo.proofs.HeadLaws.{sixteen, few_roles, few_names, plain_settings}
use Rattle.law_demo.proofs.PlacedLaws.{entries_long, relas_long}
use Rattle.law_demo.proofs.RelocLaws.{all_ordered, plan_relocations, plan_symbols}
use Rattle.law_demo.proofs.RoleLaws.{all_chosen, plain_roles, roles_plain, plain_strings}
use Rattle.law_demo.proofs.RowLaws.{tag_long}
use Rattle.law_demo.proofs.TagLaws.{table_is}
use Rattle.law_demo.proofs.TextLaws.{is_old}
use Rattle.law_demo.proofs.ValueLaws.{planned_rows, tags_are}

-- ---- tables one after the other

aligned_end : (xs : List ℕ) → length (aligned xs) ≤ length xs + 7
unfolding aligned filled_to
aligned_end xs =
    omega (arith, length-append xs (replicate (round_up (length xs) 8 - length xs) 0), length-replicate {A = ℕ} (round_up (length xs) 8 - length xs) 0, round_up-near (length xs) 8 (omega arith), round_up-at_least (length xs) 8 (omega arith))

added_end : (p : LayoutPlan) (t : Tables) (role : Role) (content : List ℕ) → end_of (table_added p t role content) ≤ end_of t + 7 + length content
unfolding table_added
added_end p t role content = omega (arith, length-append (aligned t.bytes) content, aligned_end t.bytes)

step_fits : (p : LayoutPlan) (t : Tables) (role : Role) (n : ℕ) → length (contents p t.places role) + 7 ≤ n → end_of t + n ≤ 1048576 → (u : Tables) × (role_added p t role ≡ Ok u) × (end_of u ≤ end_of t + n)
unfolding role_added
step_fits p t role n long fits = elim (cases_Bool (length (contents p t.places role) == 0)) [
  | inl none ↦ (t, rw none refl, omega arith)
  | inr some ↦
      let u : Tables = table_added p t role (contents p t.places role) in
      let far : end_of u ≤ end_of t + n = omega (arith, added_end p t role (contents p t.places role), long) in
      let inside : in_limit u ≡ Ok u = rw (not_above (end_of u) 1048576 (omega (arith, far, fits))) refl in
      (u, rw some inside, far)
]

-- how long tables are at most, with what aligns them
abbrev total : (Role → ℕ) → List Role → ℕ
total bound [] = 0
total bound (role ∷ roles) = bound role + total bound roles

abbrev IsWithin : LayoutPlan → (Role → ℕ) → Role → Type 0
IsWithin p bound role = (places : List PlacedSection) → length (contents p places role) + 7 ≤ bound role

run_fits : (p : LayoutPlan) (bound : Role → ℕ) (roles : List Role) (t : Tables) → AllByRecursion (IsWithin p bound) roles → end_of t + total bound roles ≤ 1048576 → (u : Tables) × (run (role_added p) t roles ≡ Ok u) × (end_of u ≤ 1048576)
unfolding run
run_fits p bound [] t all fits = (t, refl, omega (arith, fits))
run_fits p bound (role ∷ roles) t all fits =
    let step = step_fits p t role (bound role) (all.0 t.places) (omega (arith, fits)) in
    let rest = run_fits p bound roles step.0 all.1 (omega (arith, fits, step.2)) in
    (rest.0, rw step.1 rest.1, rest.2)

-- ---- how long each is

words_long : {X : Type 0} (f : X → ℕ) (xs : List X) → length (fields (map (λ x. Word (f x)) xs)) ≡ 4 * length xs
unfolding fields
words_long f [] = omega arith
words_long f (x ∷ xs) = omega (arith, length-append (field_bytes (Word (f x))) (fields (map (λ y. Word (f y)) xs)), one (f x), words_long f xs)
  where
    one : (w : ℕ) → length (field_bytes (Word w)) ≡ 4
    one w = refl

sysv_head : (count n : ℕ) → length (fields (Word count ∷ Word n ∷ [])) ≡ 8
unfolding fields
sysv_head count n = refl

sysv_null : length (fields (Word 0 ∷ [])) ≡ 4
unfolding fields
sysv_null = refl

sysv_long : (count : ℕ) (buckets : List ℕ) → length (sysv_words count buckets) ≡ 12 + 4 * count + 4 * length buckets
unfolding sysv_words
sysv_long count buckets =
    let a : List ℕ = fields (Word count ∷ Word (length buckets + 1) ∷ []) in
    let b : List ℕ = fields (map (λ k. Word (first_from buckets 0 k)) (range_with_len 0 count)) in
    let c : List ℕ = fields (Word 0 ∷ []) in
    let d : List ℕ = fields (map (λ k. Word (next_after buckets k)) (range_with_len 0 (length buckets))) in
    let bb : length b ≡ 4 * length (range_with_len 0 count) = words_long (first_from buckets 0) (range_with_len 0 count) in
    let dd : length d ≡ 4 * length (range_with_len 0 (length buckets)) = words_long (next_after buckets) (range_with_len 0 (length buckets)) in
    omega (arith, length-append (a ++ b ++ c) d, length-append (a ++ b) c, length-append a b, sysv_head count (length buckets + 1), bb, sysv_null, dd, length-range_with_len 0 count, length-range_with_len 0 (length buckets))

gnu_head : (count first word : ℕ) → length (fields (Word count ∷ Word first ∷ Word 1 ∷ Word 6 ∷ Xword word ∷ [])) ≡ 24
unfolding fields
gnu_head count first word = refl

gnu_long : (count first : ℕ) (hashes buckets : List ℕ) → length (gnu_words count first hashes buckets) ≡ 24 + 4 * count + 4 * length hashes
unfolding gnu_words
gnu_long count first hashes buckets =
    let a : List ℕ = fields (Word count ∷ Word first ∷ Word 1 ∷ Word 6 ∷ Xword (bloom hashes) ∷ []) in
    let b : List ℕ = fields (map (λ k. Word (gnu_first first buckets k)) (range_with_len 0 count)) in
    let c : List ℕ = fields (map (λ k. Word (gnu_chain hashes buckets k)) (range_with_len 0 (length hashes))) in
    let bb : length b ≡ 4 * length (range_with_len 0 count) = words_long (gnu_first first buckets) (range_with_len 0 count) in
    let cc_long : length c ≡ 4 * length (range_with_len 0 (length hashes)) = words_long (gnu_chain hashes buckets) (range_with_len 0 (length hashes)) in
    omega (arith, length-append (a ++ b) c, length-append a b, gnu_head count first (bloom hashes), bb, cc_long, length-range_with_len 0 count, length-range_with_len 0 (length hashes))

fewer : {X : Type 0} (q : X → Bool) (xs : List X) → length (filter q xs) ≤ length xs
fewer q xs = omega (arith, length-filter_both q (λ x. not (q x)) (λ x. refl) xs)

chosen_fewer : {T : Type 0} (cs : List (Bool × T)) → length (chosen cs) ≤ length cs
unfolding chosen
chosen_fewer cs = omega (arith, length-map (filter (λ c. c.0) cs) (λ c. c.1), fewer (λ c. c.0) cs)

-- ---- the strings

text_end : (s : StringTable) (text : List ℕ) → length (text_added s text).bytes ≤ length s.bytes + length text + 1
unfolding text_added is_old
text_end s text = elim (cases_Bool (is_old s text)) [
  | inl old ↦ rw old (omega arith)
  | inr new ↦ rw new (omega (arith, length-append (s.bytes ++ text) (0 ∷ []), length-append s.bytes text))
]

texts_end : (s : StringTable) (texts : List (List ℕ)) → AllByRecursion IsValidName texts → length (texts_added s texts).bytes ≤ length s.bytes + 256 * length texts
unfolding texts_added
texts_end s [] all = omega arith
texts_end s (text ∷ texts) all = omega (arith, texts_end (text_added s text) texts all.1, text_end s text, (valid_length text all.0).1)

symbols_end : (s : StringTable) (symbols : List SymbolLine) → AllByRecursion (λ x. is_valid_name x.name ≡ true) symbols → length (symbols_added s symbols).bytes ≤ length s.bytes + 256 * length symbols
unfolding symbols_added
symbols_end s [] all = omega arith
symbols_end s (x ∷ symbols) all = omega (arith, symbols_end (symbol_added s x) symbols all.1, text_end s x.name, (valid_length x.name all.0).1)

valid_names : (s : Settings) (symbols : List SymbolLine) → AllByRecursion (IsModestSymbol s) symbols → AllByRecursion (λ x. is_valid_name x.name ≡ true) symbols
valid_names s [] all = tt
valid_names s (x ∷ symbols) all = (all.0.name, valid_names s symbols all.1)

-- ---- of a bounded recipe

pub record IsCounted (p : LayoutPlan) : Type 0 where
  pub buckets : p.settings.buckets ≤ 4096
  pub spare : p.settings.spare ≤ 256
  pub needs : length p.needed ≤ 64
  pub symbols : length p.symbols ≤ 512
  pub relocations : length p.relocations ≤ 512
  pub strings : length p.strings.bytes ≤ 147457

plan_needed : (r : Recipe) → (plan_of r).needed ≡ r.needs
unfolding plan_of
plan_needed r = refl

is_counted : (r : Recipe) → IsPlain r → IsModest r → IsBounded r → IsCounted (plan_of r)
is_counted r plain m b =
    let p : LayoutPlan = plan_of r in
    let settings : ArePlain p.settings = plain_settings r plain in
    let symbols : length p.symbols ≡ length r.symbols = ap (λ (l : List SymbolLine). length l) (plan_symbols r) ∙ length_permutation r.symbols (ordered r.settings r.symbols) (ordered_permutes r.settings r.symbols plain.settings.some_buckets) in
    let all : AllByRecursion (IsModestSymbol r.settings) p.symbols = subst (AllByRecursion (IsModestSymbol r.settings)) (sym (plan_symbols r)) (all_ordered (IsModestSymbol r.settings) r.settings r.symbols m.symbols) in
    let end_names : length (texts_added start r.needs).bytes ≤ 1 + 256 * length r.needs = texts_end start r.needs m.needs in
    let end_symbols : length (symbols_added (texts_added start r.needs) p.symbols).bytes ≤ length (texts_added start r.needs).bytes + 256 * length p.symbols = symbols_end (texts_added start r.needs) p.symbols (valid_names r.settings p.symbols all) in
    record {
      buckets = settings.few_buckets;
      spare = settings.few_spare;
      needs = omega (arith, ap (λ (l : List (List ℕ)). length l) (plan_needed r), b.needs);
      symbols = omega (arith, symbols, b.symbols);
      relocations = omega (arith, ap (λ (l : List Relocation). length l) (plan_relocations r), b.relocations);
      strings = omega (arith, ap (λ (s : StringTable). length s.bytes) (plain_strings r plain), end_symbols, end_names, symbols, b.symbols, b.needs);
    }

-- no table has more bytes, but for the strings
abbrev bound : Role → ℕ
bound Dynstr = 147464
bound _ = 18500

sysv_within : (p : LayoutPlan) → IsCounted p → IsWithin p bound Hash
unfolding contents sysv_table sysv_buckets
sysv_within p c places = omega (arith, sysv_long p.settings.buckets (sysv_buckets p), length-map p.symbols (λ (s : SymbolLine). bucket_of p.settings.buckets (sysv s.name)), c.buckets, c.symbols)

gnu_within : (p : LayoutPlan) → IsCounted p → IsWithin p bound GnuHash
unfolding contents gnu_table
gnu_within p c places =
    let hashes : List ℕ = gnu_hashes p.symbols in
    omega (arith, gnu_long p.settings.buckets (symoffset p) hashes (gnu_buckets p.settings.buckets hashes), length-map (filter is_defined p.symbols) hash_of, fewer is_defined p.symbols, c.buckets, c.symbols)

symbols_within : (p : LayoutPlan) → IsCounted p → IsWithin p bound Dynsym
unfolding contents symbol_table
symbols_within p c places = omega (arith, entries_long (null_entry ∷ map (entry_of p) p.symbols), length-map p.symbols (entry_of p), c.symbols)

strings_within : (p : LayoutPlan) → IsCounted p → IsWithin p bound Dynstr
unfolding contents
strings_within p c places = omega (arith, c.strings)

others_within : (p : LayoutPlan) → IsCounted p → IsWithin p bound RelaDyn
unfolding contents others
others_within p c places = omega (arith, relas_long (map (rela_of p) (filter is_other p.relocations)), length-map (filter is_other p.relocations) (rela_of p), fewer is_other p.relocations, c.relocations)

slots_within : (p : LayoutPlan) → IsCounted p → IsWithin p bound RelaPlt
unfolding contents jump_slots
slots_within p c places = omega (arith, relas_long (map (rela_of p) (filter is_jump_slot p.relocations)), length-map (filter is_jump_slot p.relocations) (rela_of p), fewer is_jump_slot p.relocations, c.relocations)

spare_long : (p : LayoutPlan) → length (spare_tags p) ≡ p.settings.spare
unfolding spare_tags
spare_long p = length-map (range_with_len 0 p.settings.spare) (λ k. end_tag) ∙ length-range_with_len 0 p.settings.spare

needed_long : (p : LayoutPlan) → length (needed_tags p) ≡ length p.needed
unfolding needed_tags
needed_long p = length-map p.needed _

dynamic_within : (p : LayoutPlan) → IsCounted p → IsWithin p bound Dynamic
unfolding contents
dynamic_within p c places =
    let rows : List Tag = planned_tags p places ++ end_tag ∷ spare_tags p in
    let long : length (dynamic_table p places) ≡ 16 * length rows = ap (λ (l : List ℕ). length l) (table_is p places) ∙ rows_long 16 tag_bytes tag_long rows in
    let tags : length (planned_tags p places) ≡ length (needed_tags p) + length (chosen (planned_rows p places)) = ap (λ (l : List Tag). length l) (tags_are p places) ∙ length-append (needed_tags p) (chosen (planned_rows p places)) in
    let few : length (chosen (planned_rows p places)) ≤ 25 = chosen_fewer (planned_rows p places) in
    omega (arith, long, length-append (planned_tags p places) (end_tag ∷ spare_tags p), tags, few, needed_long p, spare_long p, c.needs, c.spare)

all_within : (p : LayoutPlan) (a b c d : Bool) → IsCounted p → AllByRecursion (IsWithin p bound) (plain_roles a b c d)
unfolding contents
all_within p a b c d counted = all_chosen (IsWithin p bound) _ (
  λ _ places. omega arith,
  (
    λ _. sysv_within p counted,
    (
      λ _. gnu_within p counted,
      (
        λ _. symbols_within p counted,
        (
          λ _. strings_within p counted,
          (
            λ _. others_within p counted,
            (
              λ _. slots_within p counted,
              (
                λ _. dynamic_within p counted,
                (λ _ places. omega arith, (λ _ places. omega arith, (λ _ places. omega arith, tt))),
              ),
            ),
          ),
        ),
      ),
    ),
  ),
)

total_shapes : (a b c d : Bool) → nat_le (total bound (plain_roles a b c d)) 400000 ≡ true
unfolding chosen
total_shapes = sixteen (λ a b c d. nat_le (total bound (plain_roles a b c d)) 400000) refl

below_from : (a b : ℕ) → nat_le a b ≡ true → a ≤ b
below_from a b h = grind (arith, nat_tests)

tables_made : (r : Recipe) → IsPlain r → IsModest r → IsBounded r → (t : Tables) × (tables (plan_of r) ≡ Ok t) × (end_of t ≤ 1048576)
unfolding tables
tables_made r plain m b =
    let p : LayoutPlan = plan_of r in
    let s : Bool = r.settings.hashes.sysv in
    let g : Bool = r.settings.hashes.gnu in
    let o : Bool = list_any is_other r.relocations in
    let j : Bool = list_any is_jump_slot r.relocations in
    let few : total bound (plain_roles s g o j) ≤ 400000 = below_from (total bound (plain_roles s g o j)) 400000 (total_shapes s g o j) in
    let done = run_fits p bound (plain_roles s g o j) no_tables (all_within p s g o j (is_counted r plain m b)) (omega (arith, few)) in
    (done.0, ap (run (role_added p) no_tables) (roles_plain r plain) ∙ done.1, done.2)

-- ---- the file

end_small : (r : Recipe) (t : Tables) → IsPlain r → end_of t ≤ 1048576 → file_end (plan_of r) (end_of t) (names_of (plan_of r)) ≤ 16777216
unfolding sections_offset parts_end
end_small r t plain fits =
    let p : LayoutPlan = plan_of r in
    let n : ℕ = data_offset (end_of t) + p.settings.data_size + length (names_of p).bytes in
    omega (arith, round_up-near n 8 (omega arith), round_up-near (end_of t) 4096 (omega arith), fits, (plain_settings r plain).few_data, few_names r plain, few_roles r plain)

limited_made : (p : LayoutPlan) (t : Tables) → file_end p (end_of t) (names_of p) ≤ 16777216 → limited p (names_of p) t ≡ Ok (file_of p t (end_of t) (names_of p) (sections_offset p (end_of t) (names_of p)))
unfolding limited
limited_made p t fits = rw (not_above (file_end p (end_of t) (names_of p)) 16777216 fits) refl

pub bounded_made : BoundedIsMade
unfolding made
bounded_made r plain m b =
    let p : LayoutPlan = plan_of r in
    let at = tables_made r plain m b in
    let t : Tables = at.0 in
    (file_of p t (end_of t) (names_of p) (sections_offset p (end_of t) (names_of p)), rw at.1 (limited_made p t (end_small r t plain at.2)))
