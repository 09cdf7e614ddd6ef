-- The System V hash table of a plan is well formed, and leads to each symbol.
use Rattle.std.proofs.Common.{◌≡◌, ℕ, zero, suc, ◌+◌, ◌-◌, ◌*◌, ◌%◌, ◌^◌, ◌<◌, ◌≤◌, Bool, true, false, List, [], ◌∷◌, ◌++◌, length, map, drop, get_or, Option, Some, None, refl, sym, ap, subst, ◌∙◌, length-append, length-drop, arith, inl, inr}
use Rattle.std.specs.Prelude.{◌⊎◌, ◌==◌, ◌||◌, nat_le, nat_lt, filter, is_some}
use Rattle.std.specs.List.{AllByRecursion, flat_map, list_all, list_any, position_or_len, range_with_len}
use Rattle.std.proofs.lemmas.Bool.{cases_Bool, cases_lt, false≢true}
use Rattle.std.proofs.lemmas.Bool.Decides.{nat_tests}
use Rattle.std.proofs.lemmas.List.{length-map, get_or_append_left, get_or-append_right, get_or-drop}
use Rattle.std.proofs.lemmas.List.Concat.{flat_map-append}
use Rattle.std.proofs.lemmas.List.FromFn.{length-range_with_len, get_or-map-range_with_len}
use Rattle.std.proofs.lemmas.List.Sums.{fails_before_first, passes_at_first}
use Rattle.std.proofs.Math.Nat.{mod-lt}
use Rattle.byteorder.specs.Numbers.{little_number-reads_back}
use Rattle.pl_base.specs.Bytes.{part, word32}
use Rattle.pl_base.proofs.WordLaws.{word32_within}
use Rattle.pl_hash.specs.ChainSymbols.{matching, chain_symbols, is_chain_symbol}
use Rattle.pl_hash.specs.Chain.{head, following, is_linked, with_first, chain_from, chain, has_buckets, is_counted, has_links, chains_end, well_formed}
use Rattle.pl_hash.specs.Hash.{sysv}
use Rattle.pl_hash.specs.Table.{has_header, buckets_at, chains_at, first_linked, link_at, bucket, link, admits, matches}
use Rattle.pl_hash.specs.Table.{HashTable}
use Rattle.pl_build.specs.declared.fields.Field.TheVariants.{Word}
use Rattle.pl_build.specs.declared.line.SymbolLine.{SymbolLine}
use Rattle.pl_build.specs.declared.layout_plan.LayoutPlan.{LayoutPlan}
use Rattle.pl_build.specs.Fields.{field_bytes, fields}
use Rattle.pl_build.specs.HashTables.{sysv_buckets, first_from, next_after, sysv_words, sysv_table}
use Rattle.pl_build.specs.Symbols.{bucket_of}
use Rattle.law_demo.specs.Hashes.{sysv_of, FitsBuckets, SysvIsWhole}
use Rattle.law_demo.proofs.HeadLaws.{all_append}
use Rattle.law_demo.proofs.RowLaws.{table_back}
use Rattle.law_demo.proofs.BackLaws.{rows_long}

-- ---- the words of the table

word_bytes : ℕ → List ℕ
word_bytes w = field_bytes (Word w)

of_words : {X : Type 0} (f : X → ℕ) (xs : List X) → fields (map (λ x. Word (f x)) xs) ≡ flat_map word_bytes (map f xs)
unfolding fields word_bytes
of_words f [] = refl
of_words f (x ∷ xs) = ap (λ (l : List ℕ). field_bytes (Word (f x)) ++ l) (of_words f xs)

-- the counts and the buckets; the null symbol's link; the links of the others
abbrev counts : ℕ → List ℕ → List ℕ
counts count buckets = count ∷ (length buckets + 1) ∷ []

abbrev firsts : ℕ → List ℕ → List ℕ
firsts count buckets = map (first_from buckets 0) (range_with_len 0 count)

abbrev nexts : List ℕ → List ℕ
nexts buckets = map (next_after buckets) (range_with_len 0 (length buckets))

two_words : (x y : ℕ) → fields (Word x ∷ Word y ∷ []) ≡ flat_map word_bytes (x ∷ y ∷ [])
unfolding fields word_bytes
two_words x y = refl

one_word : (x : ℕ) → fields (Word x ∷ []) ≡ flat_map word_bytes (x ∷ [])
unfolding fields word_bytes
one_word x = refl

-- all of them
table_words : ℕ → List ℕ → List ℕ
table_words count buckets = counts count buckets ++ firsts count buckets ++ 0 ∷ [] ++ nexts buckets

words_are : (count : ℕ) (buckets : List ℕ) → sysv_words count buckets ≡ flat_map word_bytes ((counts count buckets ++ firsts count buckets ++ 0 ∷ []) ++ nexts buckets)
unfolding sysv_words
words_are count buckets =
    let a : List ℕ = counts count buckets in
    let b : List ℕ = firsts count buckets in
    let c : List ℕ = nexts buckets in
    let bytes : List ℕ → List ℕ = λ ws. flat_map word_bytes ws in
    let last : List ℕ = fields (map (λ k. Word (next_after buckets k)) (range_with_len 0 (length buckets))) in
    let middle : List ℕ = fields (map (λ k. Word (first_from buckets 0 k)) (range_with_len 0 count)) in
    ap (λ (l : List ℕ). l ++ middle ++ fields (Word 0 ∷ []) ++ last) (two_words count (length buckets + 1))
    ∙ ap (λ (l : List ℕ). bytes a ++ l ++ fields (Word 0 ∷ []) ++ last) (of_words (first_from buckets 0) (range_with_len 0 count))
    ∙ ap (λ (l : List ℕ). bytes a ++ bytes b ++ l ++ last) (one_word 0)
    ∙ ap (λ (l : List ℕ). bytes a ++ bytes b ++ bytes (0 ∷ []) ++ l) (of_words (next_after buckets) (range_with_len 0 (length buckets)))
    ∙ ap (λ (l : List ℕ). l ++ bytes (0 ∷ []) ++ bytes c) (sym (flat_map-append word_bytes a b))
    ∙ ap (λ (l : List ℕ). l ++ bytes c) (sym (flat_map-append word_bytes (a ++ b) (0 ∷ [])))
    ∙ sym (flat_map-append word_bytes (a ++ b ++ 0 ∷ []) c)

-- ---- read back

read_word : List ℕ → ℕ → ℕ
read_word bytes at = word32 at bytes

word_long : (w : ℕ) → length (word_bytes w) ≡ 4
unfolding word_bytes
word_long w = refl

word_back : (w : ℕ) → w < 2 ^ 32 → read_word (word_bytes w) 0 ≡ w
unfolding read_word word_bytes word32
word_back w small = little_number-reads_back 4 w [] small

word_alike : (bytes : List ℕ) (at : ℕ) → read_word (part at 4 bytes) 0 ≡ read_word bytes at
unfolding read_word
word_alike bytes at = sym (word32_within at bytes)

word_at : (ws : List ℕ) (i : ℕ) → AllByRecursion (λ w. w < 2 ^ 32) ws → i < length ws → word32 (4 * i) (flat_map word_bytes ws) ≡ get_or ws i 0
unfolding read_word
word_at ws i all lt =
    sym (get_or-map-range_with_len (λ k. read_word (flat_map word_bytes ws) (4 * k)) 0 (length ws) i i 0 lt (omega arith))
    ∙ ap (λ (l : List ℕ). get_or l i 0) (table_back 4 word_bytes read_word (λ w. w < 2 ^ 32) word_long word_back word_alike ws all)

-- ---- the first of a bucket, from an index on

is_of : ℕ → ℕ → Bool
is_of b k = k == b

at_most : (a b : ℕ) → a ≤ b → nat_le a b ≡ true
at_most a b le = grind (arith, nat_tests)

equal : (a b : ℕ) → a ≡ b → (a == b) ≡ true
equal a b e = grind (arith, nat_tests)

below_true : (a b : ℕ) → a < b → nat_lt a b ≡ true
below_true a b lt = grind (arith, nat_tests)

below_from : (a b : ℕ) → nat_lt a b ≡ true → a < b
below_from a b h = grind (arith, nat_tests)

pub record IsNext (buckets : List ℕ) (from b v : ℕ) : Type 0 where
  pub index : ℕ
  pub is : v ≡ index + 1
  pub after : from ≤ index
  pub within : index < length buckets
  pub same : (get_or buckets index 0 == b) ≡ true

-- there is none, or it is one of them
next_or_none : (buckets : List ℕ) (from b : ℕ) → (first_from buckets from b ≡ 0) ⊎ IsNext buckets from b (first_from buckets from b)
unfolding first_from
next_or_none buckets from b =
    let rest : List ℕ = drop from buckets in
    let k : ℕ = position_or_len (λ n. n == b) rest in
    elim (cases_Bool (nat_lt k (length rest))) [
      | inr none ↦ inl (rw none refl)
      | inl there ↦
          let lt : k < length rest = below_from k (length rest) there in
          let hit : (get_or rest k 0 == b) ≡ true = passes_at_first (λ n. n == b) rest 0 lt in
          inr (record {
            index = from + k;
            is = rw there refl;
            after = omega arith;
            within = omega (arith, lt, length-drop from buckets);
            same = subst (λ (x : ℕ). (x == b) ≡ true) (get_or-drop from buckets k 0) hit;
          })
    ]

first_small : (buckets : List ℕ) (from b : ℕ) → first_from buckets from b ≤ length buckets
first_small buckets from b = elim (next_or_none buckets from b) [
  | inl none ↦ omega (arith, none)
  | inr next ↦ omega (arith, next.is, next.within)
]

-- where a later one has the bucket, the first is no later than that
first_before : (buckets : List ℕ) (from b m : ℕ) → from ≤ m → m < length buckets → (get_or buckets m 0 == b) ≡ true → (next : IsNext buckets from b (first_from buckets from b)) × (next.index ≤ m)
unfolding first_from
first_before buckets from b m le lt same =
    let rest : List ℕ = drop from buckets in
    let k : ℕ = position_or_len (λ n. n == b) rest in
    let place : from + (m - from) ≡ m = omega (arith, le) in
    let there : (get_or rest (m - from) 0 == b) ≡ true = subst (λ (x : ℕ). (x == b) ≡ true) (sym (get_or-drop from buckets (m - from) 0 ∙ ap (λ (i : ℕ). get_or buckets i 0) place)) same in
    let near : k ≤ m - from = elim (cases_lt (m - from) k) [
      | inl before ↦ absurd (false≢true (sym (fails_before_first (λ n. n == b) rest (m - from) 0 before) ∙ there))
      | inr past ↦ past
    ] in
    let inside : k < length rest = omega (arith, near, le, lt, length-drop from buckets) in
    let hit : (get_or rest k 0 == b) ≡ true = passes_at_first (λ n. n == b) rest 0 inside in (
      record {
        index = from + k;
        is = rw (below_true k (length rest) inside) refl;
        after = omega arith;
        within = omega (arith, near, le, lt);
        same = subst (λ (x : ℕ). (x == b) ≡ true) (get_or-drop from buckets k 0) hit;
      },
      omega (arith, near, le),
    )

-- ---- a table with these links

pub record IsSysv (t : HashTable) (buckets : List ℕ) : Type 0 where
  pub plain : t.gnu ≡ false
  pub symbols : t.symbols ≡ length buckets + 1
  pub links : (j : ℕ) → j < length buckets → link t (j + 1) ≡ next_after buckets j
  pub linked : (j : ℕ) → j < length buckets → is_linked t (j + 1) ≡ true

chain_none : (t : HashTable) (steps : ℕ) → chain_from t steps None ≡ Some []
unfolding chain_from
chain_none t zero = refl
chain_none t (suc steps) = refl

-- one step: the links of symbol number j + 1
chain_step : (t : HashTable) (buckets : List ℕ) (steps j : ℕ) (rest : Option (List ℕ)) → IsSysv t buckets → j < length buckets → chain_from t steps (following t (j + 1)) ≡ rest → chain_from t (suc steps) (Some (j + 1)) ≡ with_first (j + 1) rest
unfolding chain_from
chain_step t buckets steps j rest is lt e = rw (is.linked j lt, e) refl

follows_none : (t : HashTable) (buckets : List ℕ) (j : ℕ) → IsSysv t buckets → j < length buckets → next_after buckets j ≡ 0 → following t (j + 1) ≡ None
unfolding following
follows_none t buckets j is lt none = rw (is.links j lt, is.plain, none) refl

follows_some : (t : HashTable) (buckets : List ℕ) (j next : ℕ) → IsSysv t buckets → j < length buckets → next_after buckets j ≡ next + 1 → following t (j + 1) ≡ Some (next + 1)
unfolding following
follows_some t buckets j next is lt some = rw (is.links j lt, is.plain, some, not_zero next) refl
  where
    not_zero : (n : ℕ) → (n + 1 == 0) ≡ false
    not_zero n = grind (arith, nat_tests)

-- each chain ends, since its symbols ascend
chain_there : (t : HashTable) (buckets : List ℕ) (steps j : ℕ) → IsSysv t buckets → j < length buckets → length buckets ≤ j + steps → (rest : List ℕ) × (chain_from t steps (Some (j + 1)) ≡ Some ((j + 1) ∷ rest))
unfolding next_after
chain_there t buckets zero j is lt enough = absurd (omega (arith, lt, enough))
chain_there t buckets (suc steps) j is lt enough = elim (next_or_none buckets (j + 1) (get_or buckets j 0)) [
  | inl none ↦
      let follows : chain_from t steps (following t (j + 1)) ≡ Some [] = ap (chain_from t steps) (follows_none t buckets j is lt none) ∙ chain_none t steps in
      ([], chain_step t buckets steps j (Some []) is lt follows)
  | inr next ↦
      let more = chain_there t buckets steps next.index is next.within (omega (arith, next.after, enough)) in
      let follows : chain_from t steps (following t (j + 1)) ≡ Some ((next.index + 1) ∷ more.0) = ap (chain_from t steps) (follows_some t buckets j next.index is lt next.is) ∙ more.1 in
      ((next.index + 1) ∷ more.0, chain_step t buckets steps j (Some ((next.index + 1) ∷ more.0)) is lt follows)
]

-- and has each later symbol of its bucket
chain_holds : (t : HashTable) (buckets : List ℕ) (steps j m : ℕ) → IsSysv t buckets → j ≤ m → m < length buckets → (get_or buckets m 0 == get_or buckets j 0) ≡ true → length buckets ≤ j + steps
    → (l : List ℕ) × (chain_from t steps (Some (j + 1)) ≡ Some l) × (list_any (λ k. k == m + 1) l ≡ true)
unfolding next_after
chain_holds t buckets zero j m is le lt same enough = absurd (omega (arith, le, lt, enough))
chain_holds t buckets (suc steps) j m is le lt same enough = elim (cases_lt j m) [
  | inr here ↦
      let one = chain_there t buckets (suc steps) j is (omega (arith, le, lt)) enough in
      let at : j ≡ m = omega (arith, le, here) in
      ((j + 1) ∷ one.0, one.1, first_is j m one.0 at)
  | inl before ↦
      let found_next = first_before buckets (j + 1) (get_or buckets j 0) m (omega (arith, before)) lt same in
      let next = found_next.0 in
      let bucket_same : (get_or buckets m 0 == get_or buckets next.index 0) ≡ true = both_same (get_or buckets m 0) (get_or buckets next.index 0) (get_or buckets j 0) same next.same in
      let more = chain_holds t buckets steps next.index m is found_next.1 lt bucket_same (omega (arith, next.after, enough)) in
      let follows : chain_from t steps (following t (j + 1)) ≡ Some more.0 = ap (chain_from t steps) (follows_some t buckets j next.index is (omega (arith, before, lt)) next.is) ∙ more.1 in
      ((j + 1) ∷ more.0, chain_step t buckets steps j (Some more.0) is (omega (arith, before, lt)) follows, behind (j + 1 == m + 1) (list_any (λ k. k == m + 1) more.0) more.2)
]
  where
    first_is : (a b : ℕ) (l : List ℕ) → a ≡ b → list_any (λ k. k == b + 1) ((a + 1) ∷ l) ≡ true
    first_is a b l e = rw (equal (a + 1) (b + 1) (omega (arith, e))) refl

    both_same : (a b c : ℕ) → (a == c) ≡ true → (b == c) ≡ true → (a == b) ≡ true
    both_same a b c one two = grind (arith, nat_tests)

    behind : (a b : Bool) → b ≡ true → (a || b) ≡ true
    behind true b h = refl
    behind false b h = h

-- ---- where the words stand

firsts_long : (count : ℕ) (buckets : List ℕ) → length (firsts count buckets) ≡ count
firsts_long count buckets = length-map (range_with_len 0 count) (first_from buckets 0) ∙ length-range_with_len 0 count

nexts_long : (buckets : List ℕ) → length (nexts buckets) ≡ length buckets
nexts_long buckets = length-map (range_with_len 0 (length buckets)) (next_after buckets) ∙ length-range_with_len 0 (length buckets)

-- up to the null symbol's link
abbrev front_words : ℕ → List ℕ → List ℕ
front_words count buckets = counts count buckets ++ firsts count buckets ++ 0 ∷ []

front_long : (count : ℕ) (buckets : List ℕ) → length (front_words count buckets) ≡ count + 3
front_long count buckets =
    omega (arith, length-append (counts count buckets ++ firsts count buckets) (0 ∷ []), length-append (counts count buckets) (firsts count buckets), firsts_long count buckets)

all_long : (count : ℕ) (buckets : List ℕ) → length (front_words count buckets ++ nexts buckets) ≡ count + 3 + length buckets
all_long count buckets = omega (arith, length-append (front_words count buckets) (nexts buckets), front_long count buckets, nexts_long buckets)

first_at : (count : ℕ) (buckets : List ℕ) (k : ℕ) → k < count → get_or (front_words count buckets ++ nexts buckets) (2 + k) 0 ≡ first_from buckets 0 k
first_at count buckets k lt =
    let a : List ℕ = counts count buckets in
    let b : List ℕ = firsts count buckets in
    get_or_append_left (front_words count buckets) (nexts buckets) 0 (2 + k) (omega (arith, lt, front_long count buckets))
    ∙ get_or_append_left (a ++ b) (0 ∷ []) 0 (2 + k) (omega (arith, lt, length-append a b, firsts_long count buckets))
    ∙ get_or-append_right a b 2 (2 + k) 0 refl (omega arith)
    ∙ get_or-map-range_with_len (first_from buckets 0) 0 count (2 + k - 2) k 0 (omega (arith, lt)) (omega arith)

next_at : (count : ℕ) (buckets : List ℕ) (j : ℕ) → j < length buckets → get_or (front_words count buckets ++ nexts buckets) (count + 3 + j) 0 ≡ next_after buckets j
next_at count buckets j lt =
    get_or-append_right (front_words count buckets) (nexts buckets) (count + 3) (count + 3 + j) 0 (front_long count buckets) (omega arith)
    ∙ get_or-map-range_with_len (next_after buckets) 0 (length buckets) (count + 3 + j - (count + 3)) j 0 (omega (arith, lt)) (omega arith)

all_range : (f : ℕ → ℕ) (k n : ℕ) → ((i : ℕ) → f i < 2 ^ 32) → AllByRecursion (λ w. w < 2 ^ 32) (map f (range_with_len k n))
all_range f k zero each = tt
all_range f k (suc n) each = (each k, all_range f (k + 1) n each)

all_fit : (count : ℕ) (buckets : List ℕ) → count < 2 ^ 32 → length buckets + 1 < 2 ^ 32 → AllByRecursion (λ w. w < 2 ^ 32) (front_words count buckets ++ nexts buckets)
unfolding next_after
all_fit count buckets few small =
    let a : List ℕ = counts count buckets in
    let b : List ℕ = firsts count buckets in
    let zero_word : List ℕ = 0 ∷ [] in
    all_append (λ w. w < 2 ^ 32) (a ++ b ++ zero_word) (nexts buckets)
    (all_append (λ w. w < 2 ^ 32) (a ++ b) zero_word
    (all_append (λ w. w < 2 ^ 32) a b (few, (small, tt)) (all_range (first_from buckets 0) 0 count (λ i. omega (arith, first_small buckets 0 i, small)))) (omega arith, tt))
    (all_range (λ j. first_from buckets (j + 1) (get_or buckets j 0)) 0 (length buckets) (λ j. omega (arith, first_small buckets (j + 1) (get_or buckets j 0), small)))

-- ---- the table

abbrev table_of : ℕ → List ℕ → HashTable
table_of count buckets = record { words = flat_map word_bytes (front_words count buckets ++ nexts buckets); gnu = false; symbols = length buckets + 1 }

pub record AreFew (count : ℕ) (buckets : List ℕ) : Type 0 where
  pub some : 0 < count
  pub below : count < 2 ^ 32
  pub symbols : length buckets + 1 < 2 ^ 32

table_word : (count : ℕ) (buckets : List ℕ) (i : ℕ) → AreFew count buckets → i < count + 3 + length buckets → word32 (4 * i) (table_of count buckets).words ≡ get_or (front_words count buckets ++ nexts buckets) i 0
table_word count buckets i few lt = word_at (front_words count buckets ++ nexts buckets) i (all_fit count buckets few.below few.symbols) (omega (arith, lt, all_long count buckets))

table_long : (count : ℕ) (buckets : List ℕ) → length (table_of count buckets).words ≡ 4 * (count + 3 + length buckets)
table_long count buckets = rows_long 4 word_bytes word_long (front_words count buckets ++ nexts buckets) ∙ ap (λ (n : ℕ). 4 * n) (all_long count buckets)

count_is : (count : ℕ) (buckets : List ℕ) → AreFew count buckets → word32 0 (table_of count buckets).words ≡ count
count_is count buckets few = ap (λ (at : ℕ). word32 at (table_of count buckets).words) (let e : 0 ≡ 4 * 0 = omega arith in e) ∙ table_word count buckets 0 few (omega arith)

symbols_is : (count : ℕ) (buckets : List ℕ) → AreFew count buckets → word32 4 (table_of count buckets).words ≡ length buckets + 1
symbols_is count buckets few = ap (λ (at : ℕ). word32 at (table_of count buckets).words) (let e : 4 ≡ 4 * 1 = omega arith in e) ∙ table_word count buckets 1 few (omega arith)

link_place : (count : ℕ) (buckets : List ℕ) (i : ℕ) → AreFew count buckets → link_at (table_of count buckets) i ≡ 4 * (count + 2 + i)
unfolding link_at chains_at buckets_at first_linked
link_place count buckets i few = rw (count_is count buckets few) (omega arith)

bucket_is : (count : ℕ) (buckets : List ℕ) (k : ℕ) → AreFew count buckets → k < count → bucket (table_of count buckets) k ≡ first_from buckets 0 k
unfolding bucket buckets_at
bucket_is count buckets k few lt =
    ap (λ (at : ℕ). word32 at (table_of count buckets).words) (let e : 8 + 4 * k ≡ 4 * (2 + k) = omega arith in e)
    ∙ table_word count buckets (2 + k) few (omega (arith, lt)) ∙ first_at count buckets k lt

is_sysv : (count : ℕ) (buckets : List ℕ) → AreFew count buckets → IsSysv (table_of count buckets) buckets
unfolding link is_linked first_linked
is_sysv count buckets few = record {
  plain = refl;
  symbols = refl;
  links = λ j lt.
      ap (λ (at : ℕ). word32 at (table_of count buckets).words) (link_place count buckets (j + 1) few ∙ (let e : 4 * (count + 2 + (j + 1)) ≡ 4 * (count + 3 + j) = omega arith in e))
      ∙ table_word count buckets (count + 3 + j) few (omega (arith, lt)) ∙ next_at count buckets j lt;
  linked = λ j lt. rw (at_most 0 (j + 1) (omega arith), below_true (j + 1) (length buckets + 1) (omega (arith, lt)), at_most (link_at (table_of count buckets) (j + 1) + 4) (length (table_of count buckets).words) (omega (arith, lt, link_place count buckets (j + 1) few, table_long count buckets))) refl;
}

-- ---- it is well formed

not_zero : (n : ℕ) → (n + 1 == 0) ≡ false
not_zero n = grind (arith, nat_tests)

head_none : (count : ℕ) (buckets : List ℕ) (k : ℕ) → AreFew count buckets → k < count → first_from buckets 0 k ≡ 0 → head (table_of count buckets) k ≡ None
unfolding head
head_none count buckets k few lt none = rw (bucket_is count buckets k few lt, none) refl

head_some : (count : ℕ) (buckets : List ℕ) (k index : ℕ) → AreFew count buckets → k < count → first_from buckets 0 k ≡ index + 1 → head (table_of count buckets) k ≡ Some (index + 1)
unfolding head
head_some count buckets k index few lt some = rw (bucket_is count buckets k few lt, some, not_zero index) refl

chain_is_there : (count : ℕ) (buckets : List ℕ) (k : ℕ) → AreFew count buckets → k < count → is_some (chain (table_of count buckets) (head (table_of count buckets) k)) ≡ true
unfolding chain
chain_is_there count buckets k few lt =
    let t : HashTable = table_of count buckets in
    elim (next_or_none buckets 0 k) [
      | inl none ↦ ap (λ (o : Option (List ℕ)). is_some o) (ap (chain_from t (length buckets + 1)) (head_none count buckets k few lt none) ∙ chain_none t (length buckets + 1))
      | inr next ↦
          let one = chain_there t buckets (length buckets + 1) next.index (is_sysv count buckets few) next.within (omega arith) in
          ap (λ (o : Option (List ℕ)). is_some o) (ap (chain_from t (length buckets + 1)) (head_some count buckets k next.index few lt next.is) ∙ one.1)
    ]

all_in_range : (p : ℕ → Bool) (k n : ℕ) → ((i : ℕ) → i < k + n → p i ≡ true) → list_all p (range_with_len k n) ≡ true
all_in_range p k zero each = refl
all_in_range p k (suc n) each = rw (each k (omega arith)) (all_in_range p (k + 1) n (λ i lt. each i (omega (arith, lt))))

table_formed : (count : ℕ) (buckets : List ℕ) → AreFew count buckets → well_formed (table_of count buckets) ≡ true
unfolding well_formed has_header has_buckets is_counted has_links chains_end chains_at buckets_at
table_formed count buckets few =
    let t : HashTable = table_of count buckets in
    let long = table_long count buckets in
    rw (
      count_is count buckets few,
      symbols_is count buckets few,
      at_most 8 (length t.words) (omega (arith, long)),
      below_true 0 count few.some,
      at_most (8 + 4 * count) (length t.words) (omega (arith, long)),
      equal (length buckets + 1) (length buckets + 1) refl,
      at_most (link_at t (length buckets + 1)) (length t.words) (omega (arith, long, link_place count buckets (length buckets + 1) few)),
      all_in_range (λ k. is_some (chain t (head t k))) 0 count (λ k lt. chain_is_there count buckets k few (omega (arith, lt))),
    )
    refl

-- ---- it leads to each symbol

bucket_holds : (count : ℕ) (buckets : List ℕ) (b i : ℕ) → AreFew count buckets → b < count → i < length buckets → (get_or buckets i 0 == b) ≡ true
    → (l : List ℕ) × (chain (table_of count buckets) (head (table_of count buckets) b) ≡ Some l) × (list_any (λ k. k == i + 1) l ≡ true)
unfolding chain
bucket_holds count buckets b i few small lt same =
    let t : HashTable = table_of count buckets in
    let first = first_before buckets 0 b i (omega arith) lt same in
    let next = first.0 in
    let more = chain_holds t buckets (length buckets + 1) next.index i (is_sysv count buckets few) first.1 lt (both (get_or buckets i 0) (get_or buckets next.index 0) b same next.same) (omega arith) in
    (more.0, ap (chain_from t (length buckets + 1)) (head_some count buckets b next.index few small next.is) ∙ more.1, more.2)
  where
    both : (x y z : ℕ) → (x == z) ≡ true → (y == z) ≡ true → (x == y) ≡ true
    both x y z one two = grind (arith, nat_tests)

kept_all : (xs : List ℕ) → filter (λ x. true) xs ≡ xs
kept_all [] = refl
kept_all (x ∷ xs) = ap (λ (l : List ℕ). x ∷ l) (kept_all xs)

table_leads : (count : ℕ) (buckets : List ℕ) (hash i : ℕ) → AreFew count buckets → i < length buckets → (get_or buckets i 0 == hash % count) ≡ true → is_chain_symbol (table_of count buckets) hash (i + 1) ≡ true
unfolding chain_symbols matching matches admits
table_leads count buckets hash i few lt same =
    let there = bucket_holds count buckets (hash % count) i few (mod-lt hash few.some) lt same in
    rw (count_is count buckets few, there.1, kept_all there.0) there.2

-- ---- of a plan

buckets_count : (p : LayoutPlan) → length (sysv_buckets p) ≡ length p.symbols
unfolding sysv_buckets
buckets_count p = length-map p.symbols (λ (s : SymbolLine). bucket_of p.settings.buckets (sysv s.name))

few_of : (p : LayoutPlan) → FitsBuckets p → AreFew p.settings.buckets (sysv_buckets p)
unfolding sysv_buckets
few_of p fits = record { some = fits.some; below = fits.count; symbols = omega (arith, fits.symbols, length-map p.symbols (λ (s : SymbolLine). bucket_of p.settings.buckets (sysv s.name))) }

with_words : List ℕ → ℕ → HashTable
with_words words n = record { words = words; gnu = false; symbols = n }

same_table : (p : LayoutPlan) → sysv_of p ≡ table_of p.settings.buckets (sysv_buckets p)
unfolding sysv_table with_words
same_table p =
    ap (λ (words : List ℕ). with_words words (length p.symbols + 1)) (words_are p.settings.buckets (sysv_buckets p))
    ∙ ap (λ (n : ℕ). with_words (table_of p.settings.buckets (sysv_buckets p)).words (n + 1)) (sym (buckets_count p))

own_bucket : (p : LayoutPlan) (i : ℕ) (d : SymbolLine) → 0 < p.settings.buckets → i < length p.symbols → (get_or (sysv_buckets p) i 0 == sysv (get_or p.symbols i d).name % p.settings.buckets) ≡ true
unfolding sysv_buckets bucket_of
own_bucket p i d some lt = own p.symbols i lt
  where
    bucket_by : SymbolLine → ℕ
    bucket_by s = bucket_of p.settings.buckets (sysv s.name)

    not_none : (n : ℕ) → 0 < n → (n == 0) ≡ false
    not_none n h = grind (arith, nat_tests)

    own : (symbols : List SymbolLine) (i : ℕ) → i < length symbols → (get_or (map (λ s. bucket_of p.settings.buckets (sysv s.name)) symbols) i 0 == sysv (get_or symbols i d).name % p.settings.buckets) ≡ true
    own [] i lt = absurd (omega (arith, lt))
    own (s ∷ symbols) zero lt = rw (not_none p.settings.buckets some) (equal (sysv s.name % p.settings.buckets) (sysv s.name % p.settings.buckets) refl)
    own (s ∷ symbols) (suc i) lt = own symbols i (omega (arith, lt))

pub sysv_whole : SysvIsWhole
sysv_whole p fits = record {
  formed = subst (λ (t : HashTable). well_formed t ≡ true) (sym (same_table p)) (table_formed p.settings.buckets (sysv_buckets p) (few_of p fits));
  leads = λ i d lt. subst (λ (t : HashTable). is_chain_symbol t (sysv (get_or p.symbols i d).name) (i + 1) ≡ true) (sym (same_table p))
      (table_leads p.settings.buckets (sysv_buckets p) (sysv (get_or p.symbols i d).name) i (few_of p fits) (omega (arith, lt, buckets_count p)) (own_bucket p i d fits.some lt));
}
