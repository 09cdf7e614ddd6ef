-- The GNU hash table of a plan is well formed, and leads to each symbol that the plan defines.
use Rattle.std.proofs.Common.{◌≡◌, ℕ, zero, suc, ◌+◌, ◌-◌, ◌*◌, ◌/◌, ◌%◌, ◌^◌, ◌<◌, ◌≤◌, Bool, true, false, List, [], ◌∷◌, ◌++◌, length, map, drop, get_or, Option, Some, None, refl, sym, ap, subst, ◌∙◌, append_assoc, length-append, arith, inl, inr}
use Rattle.std.specs.Prelude.{◌⊎◌, ◌==◌, ◌&&◌, nat_le, nat_lt, bit_or, filter, fold, is_some, max}
use Rattle.std.specs.Int.{bit_at, is_power_of_two}
use Rattle.std.specs.List.{AllByRecursion, flat_map, list_all, list_any, position_or_len, range_with_len}
use Rattle.std.proofs.lemmas.Bool.{cases_Bool, cases_lt, false≢true, or_right}
use Rattle.std.proofs.lemmas.Bool.Decides.{nat_tests}
use Rattle.std.proofs.lemmas.List.{length-map, get_or_append_left, get_or-append_right, get_or-drop, get_or-map}
use Rattle.std.proofs.lemmas.List.Concat.{flat_map-append}
use Rattle.std.proofs.lemmas.List.FromFn.{length-range_with_len, get_or-map-range_with_len}
use Rattle.std.proofs.lemmas.List.Sums.{fails_before_first, passes_at_first}
use Rattle.std.proofs.lemmas.Nat.{mod_below, or_lt, pow_below}
use Rattle.std.proofs.lemmas.Nat.Bits.{bit_at_or, bit_at-pow_same, bit_at-lt}
use Rattle.std.proofs.Math.Nat.{mod-lt}
use Rattle.byteorder.specs.Numbers.{little_number-reads_back}
use Rattle.pl_base.specs.Bytes.{part, word32, word64}
use Rattle.pl_base.specs.Sums.{plus}
use Rattle.pl_base.proofs.SumLaws.{plus_small}
use Rattle.pl_base.proofs.WordLaws.{word32_within}
use Rattle.pl_hash.specs.ChainSymbols.{matching, chain_symbols, is_chain_symbol}
use Rattle.pl_hash.specs.Chain.{head, following, is_linked, with_first, chain_from, chain, has_buckets, is_counted, has_links, has_empty_buckets, chains_end, well_formed}
use Rattle.pl_hash.specs.Hash.{gnu, gnu_step}
use Rattle.pl_hash.specs.Table.{has_header, buckets_at, chains_at, first_linked, link_at, bucket, link, bloom_word, has_bit, first_bit, second_bit, admits, matches}
use Rattle.pl_hash.specs.Table.{HashTable}
use Rattle.pl_build.specs.declared.fields.Field.TheVariants.{Word, Xword}
use Rattle.pl_build.specs.declared.line.SymbolLine.{SymbolLine}
use Rattle.pl_build.specs.declared.layout_plan.LayoutPlan.{LayoutPlan}
use Rattle.pl_build.specs.declared.recipe.Recipe.{Recipe}
use Rattle.pl_build.specs.Fields.{field_bytes, fields}
use Rattle.pl_build.specs.HashTables.{hash_of, gnu_hashes, gnu_buckets, symoffset, bloom_more, bloom, gnu_first, goes_on, gnu_chain, gnu_words, gnu_table}
use Rattle.pl_build.specs.LayoutPlan.{plan_of}
use Rattle.pl_build.specs.Symbols.{bucket_of}
use Rattle.law_demo.specs.Gnu.{gnu_of, FitsGnu, GnuIsWhole}
use Rattle.law_demo.proofs.BackLaws.{begins_itself, rows_back, rows_long}
use Rattle.law_demo.proofs.OrderLaws.{all_at, Ascends, ascends_at, buckets_of, IsOrdered, is_ordered, own_hashes, others_counted}

-- ---- tests

at_most : (a b : ℕ) → a ≤ b → nat_le a b ≡ true
at_most a b le = grind (arith, nat_tests)

below_true : (a b : ℕ) → a < b → nat_lt a b ≡ true
below_true a b lt = grind (arith, nat_tests)

below_from : (a b : ℕ) → nat_lt a b ≡ true → a < b
below_from a b h = grind (arith, nat_tests)

equal : (a b : ℕ) → a ≡ b → (a == b) ≡ true
equal a b e = grind (arith, nat_tests)

same_from : (a b : ℕ) → (a == b) ≡ true → a ≡ b
same_from a b h = grind (arith, nat_tests)

not_zero : (n : ℕ) → 0 < n → (n == 0) ≡ false
not_zero n some = grind (arith, nat_tests)

-- ---- a hash has 32 bits

step_small : (hash byte : ℕ) → gnu_step hash byte < 2 ^ 32
unfolding gnu_step
step_small hash byte = mod_below (hash * 33 + byte) (2 ^ 32) (omega arith)

hashed_small : (hash : ℕ) (name : List ℕ) → hash < 2 ^ 32 → fold gnu_step hash name < 2 ^ 32
hashed_small hash [] small = small
hashed_small hash (b ∷ name) small = hashed_small (gnu_step hash b) name (step_small hash b)

gnu_small : (name : List ℕ) → gnu name < 2 ^ 32
unfolding gnu
gnu_small name = hashed_small 5381 name (omega arith)

hash_small : (s : SymbolLine) → hash_of s < 2 ^ 32
unfolding hash_of
hash_small s = gnu_small s.name

hashes_small : (symbols : List SymbolLine) (j : ℕ) → get_or (map hash_of symbols) j 0 < 2 ^ 32
hashes_small [] j = omega arith
hashes_small (s ∷ symbols) zero = hash_small s
hashes_small (s ∷ symbols) (suc j) = hashes_small symbols j

-- ---- the bloom word has both bits of each hash

one_of : (a b : ℕ) → (a ≡ 1) ⊎ (b ≡ 1) → a < 2 → b < 2 → max a b ≡ 1
one_of a b (inl e) x y = omega (arith, e, y)
one_of a b (inr e) x y = omega (arith, e, x)

bit_left : (a b i : ℕ) → bit_at a i ≡ 1 → bit_at (bit_or a b) i ≡ 1
bit_left a b i h = bit_at_or a b i ∙ one_of (bit_at a i) (bit_at b i) (inl h) (bit_at-lt a i) (bit_at-lt b i)

bit_right : (a b i : ℕ) → bit_at b i ≡ 1 → bit_at (bit_or a b) i ≡ 1
bit_right a b i h = bit_at_or a b i ∙ one_of (bit_at a i) (bit_at b i) (inr h) (bit_at-lt a i) (bit_at-lt b i)

more_keeps : (word hash i : ℕ) → bit_at word i ≡ 1 → bit_at (bloom_more word hash) i ≡ 1
unfolding bloom_more
more_keeps word hash i h = bit_left (bit_or word (2 ^ first_bit hash)) (2 ^ second_bit hash 6) i (bit_left word (2 ^ first_bit hash) i h)

more_first : (word hash : ℕ) → bit_at (bloom_more word hash) (first_bit hash) ≡ 1
unfolding bloom_more
more_first word hash = bit_left (bit_or word (2 ^ first_bit hash)) (2 ^ second_bit hash 6) (first_bit hash) (bit_right word (2 ^ first_bit hash) (first_bit hash) (bit_at-pow_same (first_bit hash)))

more_second : (word hash : ℕ) → bit_at (bloom_more word hash) (second_bit hash 6) ≡ 1
unfolding bloom_more
more_second word hash = bit_right (bit_or word (2 ^ first_bit hash)) (2 ^ second_bit hash 6) (second_bit hash 6) (bit_at-pow_same (second_bit hash 6))

kept_bit : (word : ℕ) (hashes : List ℕ) (i : ℕ) → bit_at word i ≡ 1 → bit_at (fold bloom_more word hashes) i ≡ 1
kept_bit word [] i h = h
kept_bit word (hash ∷ hashes) i h = kept_bit (bloom_more word hash) hashes i (more_keeps word hash i h)

has_first : (word : ℕ) (hashes : List ℕ) (j : ℕ) → j < length hashes → bit_at (fold bloom_more word hashes) (first_bit (get_or hashes j 0)) ≡ 1
has_first word [] j lt = absurd (omega (arith, lt))
has_first word (hash ∷ hashes) zero lt = kept_bit (bloom_more word hash) hashes (first_bit hash) (more_first word hash)
has_first word (hash ∷ hashes) (suc j) lt = has_first (bloom_more word hash) hashes j (omega (arith, lt))

has_second : (word : ℕ) (hashes : List ℕ) (j : ℕ) → j < length hashes → bit_at (fold bloom_more word hashes) (second_bit (get_or hashes j 0) 6) ≡ 1
has_second word [] j lt = absurd (omega (arith, lt))
has_second word (hash ∷ hashes) zero lt = kept_bit (bloom_more word hash) hashes (second_bit hash 6) (more_second word hash)
has_second word (hash ∷ hashes) (suc j) lt = has_second (bloom_more word hash) hashes j (omega (arith, lt))

more_small : (word hash : ℕ) → word < 2 ^ 64 → bloom_more word hash < 2 ^ 64
unfolding bloom_more
more_small word hash small =
    or_lt 64 (bit_or word (2 ^ first_bit hash)) (2 ^ second_bit hash 6)
    (or_lt 64 word (2 ^ first_bit hash) small (pow_below (first_bit hash) 64 (mod_below hash 64 (omega arith))))
    (pow_below (second_bit hash 6) 64 (mod_below (hash / 2 ^ 6) 64 (omega arith)))

fold_small : (word : ℕ) (hashes : List ℕ) → word < 2 ^ 64 → fold bloom_more word hashes < 2 ^ 64
fold_small word [] small = small
fold_small word (hash ∷ hashes) small = fold_small (bloom_more word hash) hashes (more_small word hash small)

bloom_small : (hashes : List ℕ) → bloom hashes < 2 ^ 64
unfolding bloom
bloom_small hashes = fold_small 0 hashes (omega arith)

-- ---- the words of the table: a header, the buckets and the links

word_bytes : ℕ → List ℕ
word_bytes w = field_bytes (Word w)

of_words : {X : Type 0} (f : X → ℕ) (xs : List X) → fields (map (λ x. Word (f x)) xs) ≡ flat_map word_bytes (map f xs)
unfolding fields word_bytes
of_words f [] = refl
of_words f (x ∷ xs) = ap (λ (l : List ℕ). field_bytes (Word (f x)) ++ l) (of_words f xs)

header : ℕ → ℕ → List ℕ → List ℕ
header count first hashes = fields (Word count ∷ Word first ∷ Word 1 ∷ Word 6 ∷ Xword (bloom hashes) ∷ [])

abbrev firsts : ℕ → ℕ → List ℕ → List ℕ
firsts count first buckets = map (gnu_first first buckets) (range_with_len 0 count)

abbrev chains : List ℕ → List ℕ → List ℕ
chains hashes buckets = map (gnu_chain hashes buckets) (range_with_len 0 (length hashes))

abbrev body : ℕ → ℕ → List ℕ → List ℕ → List ℕ
body count first hashes buckets = firsts count first buckets ++ chains hashes buckets

words_of : ℕ → ℕ → List ℕ → List ℕ → List ℕ
words_of count first hashes buckets = header count first hashes ++ flat_map word_bytes (body count first hashes buckets)

words_are : (count first : ℕ) (hashes buckets : List ℕ) → gnu_words count first hashes buckets ≡ words_of count first hashes buckets
unfolding gnu_words words_of header
words_are count first hashes buckets =
    let front : List ℕ = header count first hashes in
    let bytes : List ℕ → List ℕ = λ ws. flat_map word_bytes ws in
    let last : List ℕ = fields (map (λ k. Word (gnu_chain hashes buckets k)) (range_with_len 0 (length hashes))) in
    ap (λ (l : List ℕ). front ++ l ++ last) (of_words (gnu_first first buckets) (range_with_len 0 count))
    ∙ ap (λ (l : List ℕ). front ++ bytes (firsts count first buckets) ++ l) (of_words (gnu_chain hashes buckets) (range_with_len 0 (length hashes)))
    ∙ append_assoc front (bytes (firsts count first buckets)) (bytes (chains hashes buckets))
    ∙ ap (λ (l : List ℕ). front ++ l) (sym (flat_map-append word_bytes (firsts count first buckets) (chains hashes buckets)))

-- ---- read back

header_long : (count first : ℕ) (hashes : List ℕ) → length (header count first hashes) ≡ 24
unfolding header fields
header_long count first hashes = refl

count_read : (count first : ℕ) (hashes buckets : List ℕ) → count < 2 ^ 32 → word32 0 (words_of count first hashes buckets) ≡ count
unfolding words_of header fields word32
count_read count first hashes buckets small = little_number-reads_back 4 count (fields (Word first ∷ Word 1 ∷ Word 6 ∷ Xword (bloom hashes) ∷ []) ++ flat_map word_bytes (body count first hashes buckets)) small

first_read : (count first : ℕ) (hashes buckets : List ℕ) → first < 2 ^ 32 → word32 4 (words_of count first hashes buckets) ≡ first
unfolding words_of header fields word32
first_read count first hashes buckets small = little_number-reads_back 4 first (fields (Word 1 ∷ Word 6 ∷ Xword (bloom hashes) ∷ []) ++ flat_map word_bytes (body count first hashes buckets)) small

size_read : (count first : ℕ) (hashes buckets : List ℕ) → word32 8 (words_of count first hashes buckets) ≡ 1
unfolding words_of header fields word32
size_read count first hashes buckets = little_number-reads_back 4 1 (fields (Word 6 ∷ Xword (bloom hashes) ∷ []) ++ flat_map word_bytes (body count first hashes buckets)) (omega arith)

shift_read : (count first : ℕ) (hashes buckets : List ℕ) → word32 12 (words_of count first hashes buckets) ≡ 6
unfolding words_of header fields word32
shift_read count first hashes buckets = little_number-reads_back 4 6 (fields (Xword (bloom hashes) ∷ []) ++ flat_map word_bytes (body count first hashes buckets)) (omega arith)

bloom_read : (count first : ℕ) (hashes buckets : List ℕ) → word64 16 (words_of count first hashes buckets) ≡ bloom hashes
unfolding words_of header fields word64
bloom_read count first hashes buckets = little_number-reads_back 8 (bloom hashes) (flat_map word_bytes (body count first hashes buckets)) (bloom_small hashes)

read_word : List ℕ → ℕ → ℕ
read_word bytes at = word32 at bytes

word_long : (w : ℕ) → length (word_bytes w) ≡ 4
unfolding word_bytes
word_long w = refl

word_back : (w : ℕ) → w < 2 ^ 32 → read_word (word_bytes w) 0 ≡ w
unfolding read_word word_bytes word32
word_back w small = little_number-reads_back 4 w [] small

word_alike : (bytes : List ℕ) (at : ℕ) → read_word (part at 4 bytes) 0 ≡ read_word bytes at
unfolding read_word
word_alike bytes at = sym (word32_within at bytes)

word_behind : (front ws : List ℕ) (i : ℕ) → length front ≡ 24 → AllByRecursion (λ w. w < 2 ^ 32) ws → i < length ws → word32 (24 + 4 * i) (front ++ flat_map word_bytes ws) ≡ get_or ws i 0
unfolding read_word
word_behind front ws i long all lt =
    let bytes : List ℕ = front ++ flat_map word_bytes ws in
    sym (get_or-map-range_with_len (λ k. read_word bytes (24 + 4 * k)) 0 (length ws) i i 0 lt (omega arith))
    ∙ ap (λ (l : List ℕ). get_or l i 0) (rows_back 4 word_bytes read_word (λ w. w < 2 ^ 32) word_long word_back word_alike bytes front 24 ws (begins_itself bytes) long all)

-- ---- the first of a bucket

pub record IsFirst (first : ℕ) (buckets : List ℕ) (b v : ℕ) : Type 0 where
  pub index : ℕ
  pub is : v ≡ plus first index
  pub within : index < length buckets
  pub same : get_or buckets index 0 ≡ b

first_or_none : (first : ℕ) (buckets : List ℕ) (b : ℕ) → (gnu_first first buckets b ≡ 0) ⊎ IsFirst first buckets b (gnu_first first buckets b)
unfolding gnu_first
first_or_none first buckets b =
    let k : ℕ = position_or_len (λ n. n == b) buckets in
    elim (cases_Bool (nat_lt k (length buckets))) [
      | inr none ↦ inl (rw none refl)
      | inl there ↦
          let lt : k < length buckets = below_from k (length buckets) there in
          inr (record { index = k; is = rw there refl; within = lt; same = same_from (get_or buckets k 0) b (passes_at_first (λ n. n == b) buckets 0 lt) })
    ]

-- where one has the bucket, the first is no later
first_before : (first : ℕ) (buckets : List ℕ) (b m : ℕ) → m < length buckets → get_or buckets m 0 ≡ b → (one : IsFirst first buckets b (gnu_first first buckets b)) × (one.index ≤ m)
unfolding gnu_first
first_before first buckets b m lt same =
    let k : ℕ = position_or_len (λ n. n == b) buckets in
    let near : k ≤ m = elim (cases_lt m k) [
      | inl before ↦ absurd (false≢true (sym (fails_before_first (λ n. n == b) buckets m 0 before) ∙ equal (get_or buckets m 0) b same))
      | inr past ↦ past
    ] in
    let inside : k < length buckets = omega (arith, near, lt) in
    (record { index = k; is = rw (below_true k (length buckets) inside) refl; within = inside; same = same_from (get_or buckets k 0) b (passes_at_first (λ n. n == b) buckets 0 inside) }, near)

-- ---- what the numbers of a table are to be

pub record AreFew (count first : ℕ) (hashes buckets : List ℕ) : Type 0 where
  pub some : 0 < count
  pub below : count < 2 ^ 32
  pub not_null : 0 < first
  pub symbols : first + length hashes < 2 ^ 32
  pub same : length buckets ≡ length hashes
  pub ascending : Ascends 0 buckets
  pub small : (j : ℕ) → get_or hashes j 0 < 2 ^ 32

first_small : (count first : ℕ) (hashes buckets : List ℕ) (b : ℕ) → AreFew count first hashes buckets → gnu_first first buckets b < 2 ^ 32
first_small count first hashes buckets b few = elim (first_or_none first buckets b) [
  | inl none ↦ omega (arith, none)
  | inr one ↦ omega (arith, one.is, plus_small first one.index (omega (arith, one.within, few.symbols, few.same)), one.within, few.symbols, few.same)
]

chain_small : (hashes buckets : List ℕ) (j : ℕ) → get_or hashes j 0 < 2 ^ 32 → gnu_chain hashes buckets j < 2 ^ 32
unfolding gnu_chain
chain_small hashes buckets j small = elim (cases_Bool (goes_on buckets j)) [
  | inl more ↦ rw more (omega (arith, small))
  | inr last ↦ rw last (omega (arith, small))
]

all_range : (f : ℕ → ℕ) (k n : ℕ) → ((i : ℕ) → f i < 2 ^ 32) → AllByRecursion (λ w. w < 2 ^ 32) (map f (range_with_len k n))
all_range f k zero each = tt
all_range f k (suc n) each = (each k, all_range f (k + 1) n each)

all_both : (xs ys : List ℕ) → AllByRecursion (λ w. w < 2 ^ 32) xs → AllByRecursion (λ w. w < 2 ^ 32) ys → AllByRecursion (λ w. w < 2 ^ 32) (xs ++ ys)
all_both [] ys all more = more
all_both (x ∷ xs) ys all more = (all.0, all_both xs ys all.1 more)

body_fits : (count first : ℕ) (hashes buckets : List ℕ) → AreFew count first hashes buckets → AllByRecursion (λ w. w < 2 ^ 32) (body count first hashes buckets)
body_fits count first hashes buckets few =
    all_both (firsts count first buckets) (chains hashes buckets)
    (all_range (gnu_first first buckets) 0 count (λ b. first_small count first hashes buckets b few))
    (all_range (gnu_chain hashes buckets) 0 (length hashes) (λ j. chain_small hashes buckets j (few.small j)))

firsts_long : (count first : ℕ) (buckets : List ℕ) → length (firsts count first buckets) ≡ count
firsts_long count first buckets = length-map (range_with_len 0 count) (gnu_first first buckets) ∙ length-range_with_len 0 count

chains_long : (hashes buckets : List ℕ) → length (chains hashes buckets) ≡ length hashes
chains_long hashes buckets = length-map (range_with_len 0 (length hashes)) (gnu_chain hashes buckets) ∙ length-range_with_len 0 (length hashes)

body_long : (count first : ℕ) (hashes buckets : List ℕ) → length (body count first hashes buckets) ≡ count + length hashes
body_long count first hashes buckets = omega (arith, length-append (firsts count first buckets) (chains hashes buckets), firsts_long count first buckets, chains_long hashes buckets)

first_at : (count first : ℕ) (hashes buckets : List ℕ) (k : ℕ) → k < count → get_or (body count first hashes buckets) k 0 ≡ gnu_first first buckets k
first_at count first hashes buckets k lt =
    get_or_append_left (firsts count first buckets) (chains hashes buckets) 0 k (omega (arith, lt, firsts_long count first buckets))
    ∙ get_or-map-range_with_len (gnu_first first buckets) 0 count k k 0 lt (omega arith)

chain_at : (count first : ℕ) (hashes buckets : List ℕ) (j : ℕ) → j < length hashes → get_or (body count first hashes buckets) (count + j) 0 ≡ gnu_chain hashes buckets j
chain_at count first hashes buckets j lt =
    get_or-append_right (firsts count first buckets) (chains hashes buckets) count (count + j) 0 (firsts_long count first buckets) (omega arith)
    ∙ get_or-map-range_with_len (gnu_chain hashes buckets) 0 (length hashes) (count + j - count) j 0 (omega (arith, lt)) (omega arith)

-- ---- the table

abbrev table_of : ℕ → ℕ → List ℕ → List ℕ → HashTable
table_of count first hashes buckets = record { words = words_of count first hashes buckets; gnu = true; symbols = first + length hashes }

table_long : (count first : ℕ) (hashes buckets : List ℕ) → length (words_of count first hashes buckets) ≡ 24 + 4 * (count + length hashes)
unfolding words_of
table_long count first hashes buckets =
    let rows : length (flat_map word_bytes (body count first hashes buckets)) ≡ 4 * length (body count first hashes buckets) = rows_long 4 word_bytes word_long (body count first hashes buckets) in
    let long : length (body count first hashes buckets) ≡ count + length hashes = body_long count first hashes buckets in
    omega (arith, length-append (header count first hashes) (flat_map word_bytes (body count first hashes buckets)), header_long count first hashes, rows, long)

table_word : (count first : ℕ) (hashes buckets : List ℕ) (i : ℕ) → AreFew count first hashes buckets → i < count + length hashes
    → word32 (24 + 4 * i) (words_of count first hashes buckets) ≡ get_or (body count first hashes buckets) i 0
unfolding words_of
table_word count first hashes buckets i few lt =
    word_behind (header count first hashes) (body count first hashes buckets) i (header_long count first hashes) (body_fits count first hashes buckets few) (omega (arith, lt, body_long count first hashes buckets))

buckets_place : (count first : ℕ) (hashes buckets : List ℕ) → buckets_at (table_of count first hashes buckets) ≡ 24
unfolding buckets_at
buckets_place count first hashes buckets = rw (size_read count first hashes buckets) refl

link_place : (count first : ℕ) (hashes buckets : List ℕ) (i : ℕ) → AreFew count first hashes buckets → link_at (table_of count first hashes buckets) i ≡ 24 + 4 * count + 4 * (i - first)
unfolding link_at chains_at first_linked
link_place count first hashes buckets i few =
    rw (buckets_place count first hashes buckets, count_read count first hashes buckets few.below, first_read count first hashes buckets (omega (arith, few.symbols))) refl

bucket_is : (count first : ℕ) (hashes buckets : List ℕ) (k : ℕ) → AreFew count first hashes buckets → k < count → bucket (table_of count first hashes buckets) k ≡ gnu_first first buckets k
unfolding bucket
bucket_is count first hashes buckets k few lt =
    ap (λ (at : ℕ). word32 (at + 4 * k) (words_of count first hashes buckets)) (buckets_place count first hashes buckets)
    ∙ table_word count first hashes buckets k few (omega (arith, lt))
    ∙ first_at count first hashes buckets k lt

-- ---- a table with these links

pub record IsGnu (t : HashTable) (first : ℕ) (hashes buckets : List ℕ) : Type 0 where
  pub bloomed : t.gnu ≡ true
  pub links : (j : ℕ) → j < length hashes → link t (first + j) ≡ gnu_chain hashes buckets j
  pub linked : (j : ℕ) → j < length hashes → is_linked t (first + j) ≡ true

is_gnu : (count first : ℕ) (hashes buckets : List ℕ) → AreFew count first hashes buckets → IsGnu (table_of count first hashes buckets) first hashes buckets
unfolding link is_linked first_linked
is_gnu count first hashes buckets few = record {
  bloomed = refl;
  links = λ j lt.
      ap (λ (at : ℕ). word32 at (words_of count first hashes buckets)) (link_place count first hashes buckets (first + j) few ∙ (let e : 24 + 4 * count + 4 * (first + j - first) ≡ 24 + 4 * (count + j) = omega arith in e))
      ∙ table_word count first hashes buckets (count + j) few (omega (arith, lt)) ∙ chain_at count first hashes buckets j lt;
  linked = λ j lt.
      rw (
        first_read count first hashes buckets (omega (arith, few.symbols)),
        at_most first (first + j) (omega arith),
        below_true (first + j) (first + length hashes) (omega (arith, lt)),
        at_most (link_at (table_of count first hashes buckets) (first + j) + 4) (length (words_of count first hashes buckets)) (omega (arith, lt, link_place count first hashes buckets (first + j) few, table_long count first hashes buckets)),
      )
      refl;
}

-- ---- whether a chain goes on

any_some : (p : ℕ → Bool) (xs : List ℕ) → list_any p xs ≡ true → 0 < length xs
any_some p [] h = absurd (false≢true h)
any_some p (x ∷ xs) h = omega arith

any_at : (p : ℕ → Bool) (xs : List ℕ) (i : ℕ) → i < length xs → p (get_or xs i 0) ≡ true → list_any p xs ≡ true
any_at p [] i lt h = absurd (omega (arith, lt))
any_at p (x ∷ xs) zero lt h = rw h refl
any_at p (x ∷ xs) (suc i) lt h = or_right (p x) (list_any p xs) (any_at p xs i (omega (arith, lt)) h)

length_rest : (n : ℕ) (xs : List ℕ) → 0 < length (drop n xs) → n < length xs
length_rest zero xs h = h
length_rest (suc n) [] h = absurd (omega (arith, h))
length_rest (suc n) (x ∷ xs) h = omega (arith, length_rest n xs h)

more_within : (buckets : List ℕ) (j : ℕ) → goes_on buckets j ≡ true → j + 1 < length buckets
unfolding goes_on
more_within buckets j h = length_rest (j + 1) buckets (any_some (λ b. b == get_or buckets j 0) (drop (j + 1) buckets) h)

more_goes_on : (buckets : List ℕ) (j m : ℕ) → j < m → m < length buckets → get_or buckets m 0 ≡ get_or buckets j 0 → goes_on buckets j ≡ true
unfolding goes_on
more_goes_on buckets j m before lt same =
    let there : get_or (drop (j + 1) buckets) (m - (j + 1)) 0 ≡ get_or buckets m 0 = get_or-drop (j + 1) buckets (m - (j + 1)) 0 ∙ ap (λ (i : ℕ). get_or buckets i 0) (let e : j + 1 + (m - (j + 1)) ≡ m = omega (arith, before) in e) in
    any_at (λ b. b == get_or buckets j 0) (drop (j + 1) buckets) (m - (j + 1)) (longer (j + 1) (m - (j + 1)) buckets (omega (arith, before, lt))) (equal (get_or (drop (j + 1) buckets) (m - (j + 1)) 0) (get_or buckets j 0) (there ∙ same))
  where
    longer : (n i : ℕ) (xs : List ℕ) → n + i < length xs → i < length (drop n xs)
    longer zero i xs h = let lt : i < length xs = omega (arith, h) in lt
    longer (suc n) i [] h = absurd (omega (arith, h))
    longer (suc n) i (x ∷ xs) h = longer n i xs (omega (arith, h))

chain_more : (hashes buckets : List ℕ) (j : ℕ) → goes_on buckets j ≡ true → (gnu_chain hashes buckets j % 2 == 1) ≡ false
unfolding gnu_chain
chain_more hashes buckets j more = rw more (other (get_or hashes j 0 / 2))
  where
    other : (n : ℕ) → ((n * 2 + 0) % 2 == 1) ≡ false
    other n = let e : (n * 2 + 0) % 2 ≡ 0 = omega arith in rw e refl

chain_last : (hashes buckets : List ℕ) (j : ℕ) → goes_on buckets j ≡ false → (gnu_chain hashes buckets j % 2 == 1) ≡ true
unfolding gnu_chain
chain_last hashes buckets j last = rw last (one (get_or hashes j 0 / 2))
  where
    one : (n : ℕ) → ((n * 2 + 1) % 2 == 1) ≡ true
    one n = let e : (n * 2 + 1) % 2 ≡ 1 = omega arith in rw e refl

chain_half : (hashes buckets : List ℕ) (j : ℕ) → gnu_chain hashes buckets j / 2 ≡ get_or hashes j 0 / 2
unfolding gnu_chain
chain_half hashes buckets j = elim (cases_Bool (goes_on buckets j)) [
  | inl more ↦ rw more (even (get_or hashes j 0 / 2))
  | inr last ↦ rw last (odd (get_or hashes j 0 / 2))
]
  where
    even : (n : ℕ) → (n * 2 + 0) / 2 ≡ n
    even n = omega arith

    odd : (n : ℕ) → (n * 2 + 1) / 2 ≡ n
    odd n = omega arith

-- ---- one step of a chain

chain_none : (t : HashTable) (steps : ℕ) → chain_from t steps None ≡ Some []
unfolding chain_from
chain_none t zero = refl
chain_none t (suc steps) = refl

chain_step : (t : HashTable) (first : ℕ) (hashes buckets : List ℕ) (steps j : ℕ) (rest : Option (List ℕ)) → IsGnu t first hashes buckets → j < length hashes → chain_from t steps (following t (first + j)) ≡ rest
    → chain_from t (suc steps) (Some (first + j)) ≡ with_first (first + j) rest
unfolding chain_from
chain_step t first hashes buckets steps j rest is lt e = rw (is.linked j lt, e) refl

follows_none : (t : HashTable) (first : ℕ) (hashes buckets : List ℕ) (j : ℕ) → IsGnu t first hashes buckets → j < length hashes → goes_on buckets j ≡ false → following t (first + j) ≡ None
unfolding following
follows_none t first hashes buckets j is lt last = rw (is.links j lt, is.bloomed, chain_last hashes buckets j last) refl

follows_some : (t : HashTable) (first : ℕ) (hashes buckets : List ℕ) (j : ℕ) → IsGnu t first hashes buckets → j < length hashes → goes_on buckets j ≡ true → following t (first + j) ≡ Some (first + (j + 1))
unfolding following
follows_some t first hashes buckets j is lt more =
    let next : first + j + 1 ≡ first + (j + 1) = omega arith in
    rw (is.links j lt, is.bloomed, chain_more hashes buckets j more) (ap (λ (n : ℕ). Some n) next)

-- each chain ends, since its symbols stand one behind the other
chain_there : (t : HashTable) (first : ℕ) (hashes buckets : List ℕ) (steps j : ℕ) → IsGnu t first hashes buckets → length buckets ≡ length hashes → j < length hashes → length hashes ≤ j + steps
    → (rest : List ℕ) × (chain_from t steps (Some (first + j)) ≡ Some ((first + j) ∷ rest))
chain_there t first hashes buckets zero j is same lt enough = absurd (omega (arith, lt, enough))
chain_there t first hashes buckets (suc steps) j is same lt enough = elim (cases_Bool (goes_on buckets j)) [
  | inr last ↦
      let follows : chain_from t steps (following t (first + j)) ≡ Some [] = ap (chain_from t steps) (follows_none t first hashes buckets j is lt last) ∙ chain_none t steps in
      ([], chain_step t first hashes buckets steps j (Some []) is lt follows)
  | inl more ↦
      let further = chain_there t first hashes buckets steps (j + 1) is same (omega (arith, more_within buckets j more, same)) (omega (arith, enough)) in
      let follows : chain_from t steps (following t (first + j)) ≡ Some ((first + (j + 1)) ∷ further.0) = ap (chain_from t steps) (follows_some t first hashes buckets j is lt more) ∙ further.1 in
      ((first + (j + 1)) ∷ further.0, chain_step t first hashes buckets steps j (Some ((first + (j + 1)) ∷ further.0)) is lt follows)
]

-- and has each later symbol of its bucket
chain_holds : (t : HashTable) (first : ℕ) (hashes buckets : List ℕ) (steps j m : ℕ) → IsGnu t first hashes buckets → length buckets ≡ length hashes → Ascends 0 buckets → j ≤ m → m < length hashes → get_or buckets m 0 ≡ get_or buckets j 0
    → length hashes ≤ j + steps → (l : List ℕ) × (chain_from t steps (Some (first + j)) ≡ Some l) × (list_any (λ k. k == first + m) l ≡ true)
chain_holds t first hashes buckets zero j m is same ascending le lt alike enough = absurd (omega (arith, le, lt, enough))
chain_holds t first hashes buckets (suc steps) j m is same ascending le lt alike enough = elim (cases_lt j m) [
  | inr here ↦
      let one = chain_there t first hashes buckets (suc steps) j is same (omega (arith, le, lt)) enough in
      let at : j ≡ m = omega (arith, le, here) in
      ((first + j) ∷ one.0, one.1, first_is (first + j) (first + m) one.0 (ap (λ (n : ℕ). first + n) at))
  | inl before ↦
      let inside : m < length buckets = omega (arith, lt, same) in
      let more : goes_on buckets j ≡ true = more_goes_on buckets j m before inside alike in
      let up : get_or buckets j 0 ≤ get_or buckets (j + 1) 0 = ascends_at 0 buckets j (j + 1) (omega arith) (omega (arith, before, inside)) ascending in
      let down : get_or buckets (j + 1) 0 ≤ get_or buckets m 0 = ascends_at 0 buckets (j + 1) m (omega (arith, before)) inside ascending in
      let between : get_or buckets m 0 ≡ get_or buckets (j + 1) 0 = omega (arith, up, down, alike) in
      let further = chain_holds t first hashes buckets steps (j + 1) m is same ascending (omega (arith, before)) lt between (omega (arith, enough)) in
      let follows : chain_from t steps (following t (first + j)) ≡ Some further.0 = ap (chain_from t steps) (follows_some t first hashes buckets j is (omega (arith, before, lt)) more) ∙ further.1 in
      ((first + j) ∷ further.0, chain_step t first hashes buckets steps j (Some further.0) is (omega (arith, before, lt)) follows, or_right (first + j == first + m) (list_any (λ k. k == first + m) further.0) further.2)
]
  where
    first_is : (a b : ℕ) (l : List ℕ) → a ≡ b → list_any (λ k. k == b) (a ∷ l) ≡ true
    first_is a b l e = rw (equal a b e) refl

-- ---- it is well formed

head_none : (count first : ℕ) (hashes buckets : List ℕ) (k : ℕ) → AreFew count first hashes buckets → k < count → gnu_first first buckets k ≡ 0 → head (table_of count first hashes buckets) k ≡ None
unfolding head
head_none count first hashes buckets k few lt none = rw (bucket_is count first hashes buckets k few lt, none) refl

head_some : (count first : ℕ) (hashes buckets : List ℕ) (k : ℕ) → AreFew count first hashes buckets → k < count → (one : IsFirst first buckets k (gnu_first first buckets k)) → head (table_of count first hashes buckets) k ≡ Some (first + one.index)
unfolding head
head_some count first hashes buckets k few lt one =
    let is : gnu_first first buckets k ≡ first + one.index = one.is ∙ plus_small first one.index (omega (arith, one.within, few.symbols, few.same)) in
    rw (bucket_is count first hashes buckets k few lt, is, not_zero (first + one.index) (omega (arith, few.not_null))) refl

chain_is_there : (count first : ℕ) (hashes buckets : List ℕ) (k : ℕ) → AreFew count first hashes buckets → k < count → is_some (chain (table_of count first hashes buckets) (head (table_of count first hashes buckets) k)) ≡ true
unfolding chain
chain_is_there count first hashes buckets k few lt =
    let t : HashTable = table_of count first hashes buckets in
    let steps : ℕ = first + length hashes in
    elim (first_or_none first buckets k) [
      | inl none ↦ ap (λ (o : Option (List ℕ)). is_some o) (ap (chain_from t steps) (head_none count first hashes buckets k few lt none) ∙ chain_none t steps)
      | inr one ↦
          let there = chain_there t first hashes buckets steps one.index (is_gnu count first hashes buckets few) few.same (omega (arith, one.within, few.same)) (omega arith) in
          ap (λ (o : Option (List ℕ)). is_some o) (ap (chain_from t steps) (head_some count first hashes buckets k few lt one) ∙ there.1)
    ]

all_in_range : (p : ℕ → Bool) (k n : ℕ) → ((i : ℕ) → i < k + n → p i ≡ true) → list_all p (range_with_len k n) ≡ true
all_in_range p k zero each = refl
all_in_range p k (suc n) each = rw (each k (omega arith)) (all_in_range p (k + 1) n (λ i lt. each i (omega (arith, lt))))

header_there : (count first : ℕ) (hashes buckets : List ℕ) → has_header (table_of count first hashes buckets) ≡ true
unfolding has_header
header_there count first hashes buckets = at_most 16 (length (words_of count first hashes buckets)) (omega (arith, table_long count first hashes buckets))

buckets_there : (count first : ℕ) (hashes buckets : List ℕ) → AreFew count first hashes buckets → has_buckets (table_of count first hashes buckets) ≡ true
unfolding has_buckets chains_at
buckets_there count first hashes buckets few =
    let within : nat_le (24 + 4 * count) (length (words_of count first hashes buckets)) ≡ true = at_most (24 + 4 * count) (length (words_of count first hashes buckets)) (omega (arith, table_long count first hashes buckets)) in
    rw (buckets_place count first hashes buckets, count_read count first hashes buckets few.below, below_true 0 count few.some, within) refl

size_counted : (count first : ℕ) (hashes buckets : List ℕ) → is_counted (table_of count first hashes buckets) ≡ true
unfolding is_counted lib.Count.ones
size_counted count first hashes buckets = ap (λ (n : ℕ). is_power_of_two n) (size_read count first hashes buckets)

links_there : (count first : ℕ) (hashes buckets : List ℕ) → AreFew count first hashes buckets → has_links (table_of count first hashes buckets) ≡ true
unfolding has_links
links_there count first hashes buckets few =
    let t : HashTable = table_of count first hashes buckets in
    or_right (has_empty_buckets t) (nat_le (link_at t (first + length hashes)) (length t.words))
    (at_most (link_at t (first + length hashes)) (length t.words) (omega (arith, link_place count first hashes buckets (first + length hashes) few, table_long count first hashes buckets)))

ends_there : (count first : ℕ) (hashes buckets : List ℕ) → AreFew count first hashes buckets → chains_end (table_of count first hashes buckets) ≡ true
unfolding chains_end
ends_there count first hashes buckets few =
    let t : HashTable = table_of count first hashes buckets in
    let p : ℕ → Bool = λ k. is_some (chain t (head t k)) in
    ap (λ (n : ℕ). list_all p (range_with_len 0 n)) (count_read count first hashes buckets few.below)
    ∙ all_in_range p 0 count (λ k lt. chain_is_there count first hashes buckets k few (omega (arith, lt)))

table_formed : (count first : ℕ) (hashes buckets : List ℕ) → AreFew count first hashes buckets → well_formed (table_of count first hashes buckets) ≡ true
unfolding well_formed
table_formed count first hashes buckets few =
    rw (header_there count first hashes buckets, buckets_there count first hashes buckets few, size_counted count first hashes buckets, links_there count first hashes buckets few, ends_there count first hashes buckets few) refl

-- ---- it leads to each defined symbol

bucket_holds : (count first : ℕ) (hashes buckets : List ℕ) (b i : ℕ) → AreFew count first hashes buckets → b < count → i < length hashes → get_or buckets i 0 ≡ b
    → (l : List ℕ) × (chain (table_of count first hashes buckets) (head (table_of count first hashes buckets) b) ≡ Some l) × (list_any (λ k. k == first + i) l ≡ true)
unfolding chain
bucket_holds count first hashes buckets b i few small lt same =
    let t : HashTable = table_of count first hashes buckets in
    let steps : ℕ = first + length hashes in
    let one = first_before first buckets b i (omega (arith, lt, few.same)) same in
    let more = chain_holds t first hashes buckets steps one.0.index i (is_gnu count first hashes buckets few) few.same few.ascending one.1 lt (same ∙ sym one.0.same) (omega arith) in
    (more.0, ap (chain_from t steps) (head_some count first hashes buckets b few small one.0) ∙ more.1, more.2)

filter_has : (p : ℕ → Bool) (n : ℕ) (l : List ℕ) → p n ≡ true → list_any (λ k. k == n) l ≡ true → list_any (λ k. k == n) (filter p l) ≡ true
filter_has p n [] hit h = h
filter_has p n (k ∷ l) hit h = elim (cases_Bool (k == n)) [
  | inl here ↦
      let kept : p k ≡ true = ap p (same_from k n here) ∙ hit in
      rw (kept, here) refl
  | inr other ↦
      let later : list_any (λ k. k == n) l ≡ true = rw other at h in
      elim (cases_Bool (p k)) [
        | inl kept ↦ rw (kept, other) (filter_has p n l hit later)
        | inr lost ↦ rw lost (filter_has p n l hit later)
      ]
]

table_matches : (count first : ℕ) (hashes buckets : List ℕ) (hash i : ℕ) → AreFew count first hashes buckets → i < length hashes → get_or hashes i 0 ≡ hash → matches (table_of count first hashes buckets) hash (first + i) ≡ true
unfolding matches
table_matches count first hashes buckets hash i few lt is =
    equal (link (table_of count first hashes buckets) (first + i) / 2) (hash / 2)
    (ap (λ (n : ℕ). n / 2) ((is_gnu count first hashes buckets few).links i lt) ∙ chain_half hashes buckets i ∙ ap (λ (n : ℕ). n / 2) is)

word_is : (count first : ℕ) (hashes buckets : List ℕ) (hash : ℕ) → bloom_word (table_of count first hashes buckets) hash ≡ bloom hashes
unfolding bloom_word
word_is count first hashes buckets hash =
    ap (λ (n : ℕ). word64 (16 + 8 * (hash / 64 % n)) (words_of count first hashes buckets)) (size_read count first hashes buckets)
    ∙ ap (λ (n : ℕ). word64 n (words_of count first hashes buckets)) (let e : 16 + 8 * (hash / 64 % 1) ≡ 16 = omega arith in e)
    ∙ bloom_read count first hashes buckets

table_admits : (count first : ℕ) (hashes buckets : List ℕ) (hash i : ℕ) → i < length hashes → get_or hashes i 0 ≡ hash → admits (table_of count first hashes buckets) hash ≡ true
unfolding admits bloom
table_admits count first hashes buckets hash i lt is =
    let one : (bit_at (bloom hashes) (first_bit hash) == 1) ≡ true = equal (bit_at (bloom hashes) (first_bit hash)) 1 (subst (λ (h : ℕ). bit_at (bloom hashes) (first_bit h) ≡ 1) is (has_first 0 hashes i lt)) in
    let two : (bit_at (bloom hashes) (second_bit hash 6) == 1) ≡ true = equal (bit_at (bloom hashes) (second_bit hash 6)) 1 (subst (λ (h : ℕ). bit_at (bloom hashes) (second_bit h 6) ≡ 1) is (has_second 0 hashes i lt)) in
    ap (λ (w : ℕ). has_bit w (first_bit hash) && has_bit w (second_bit hash (word32 12 (words_of count first hashes buckets)))) (word_is count first hashes buckets hash)
    ∙ ap (λ (s : ℕ). has_bit (bloom hashes) (first_bit hash) && has_bit (bloom hashes) (second_bit hash s)) (shift_read count first hashes buckets)
    ∙ both (has_bit (bloom hashes) (first_bit hash)) (has_bit (bloom hashes) (second_bit hash 6)) one two
  where
    both : (a b : Bool) → a ≡ true → b ≡ true → (a && b) ≡ true
    both a b x y = rw (x, y) refl

table_leads : (count first : ℕ) (hashes buckets : List ℕ) (hash i : ℕ) → AreFew count first hashes buckets → i < length hashes → get_or hashes i 0 ≡ hash → get_or buckets i 0 ≡ hash % count
    → is_chain_symbol (table_of count first hashes buckets) hash (first + i) ≡ true
unfolding chain_symbols matching
table_leads count first hashes buckets hash i few lt is own =
    let t : HashTable = table_of count first hashes buckets in
    let there = bucket_holds count first hashes buckets (hash % count) i few (mod-lt hash few.some) lt own in
    rw (table_admits count first hashes buckets hash i lt is, count_read count first hashes buckets few.below, there.1) (filter_has (matches t hash) (first + i) there.0 (table_matches count first hashes buckets hash i few lt is) there.2)

-- ---- of a plan

with_words : List ℕ → ℕ → HashTable
with_words words n = record { words = words; gnu = true; symbols = n }

-- its symbols in order, its hashes and buckets
pub record IsPlanned (p : LayoutPlan) : Type 0 where
  pub order : IsOrdered p.settings.buckets p.symbols
  pub some : 0 < p.settings.buckets
  pub count : p.settings.buckets < 2 ^ 32
  pub symbols : length p.symbols + 1 < 2 ^ 32

is_planned : (r : Recipe) → FitsGnu r → IsPlanned (plan_of r)
unfolding plan_of
is_planned r fits = record { order = is_ordered r.settings r.symbols fits.has; some = fits.some; count = fits.count; symbols = fits.symbols }

abbrev first_of : (p : LayoutPlan) → IsPlanned p → ℕ
first_of p is = length is.order.others + 1

abbrev hashes_of : (p : LayoutPlan) → IsPlanned p → List ℕ
hashes_of p is = map hash_of is.order.own

offset_is : (p : LayoutPlan) (is : IsPlanned p) → symoffset p ≡ first_of p is
unfolding symoffset
offset_is p is = ap (λ (n : ℕ). n + 1) (others_counted p.settings.buckets p.symbols is.order)

all_symbols : (p : LayoutPlan) (is : IsPlanned p) → length p.symbols + 1 ≡ first_of p is + length (hashes_of p is)
all_symbols p is = omega (arith, ap (λ (l : List SymbolLine). length l) is.order.parts, length-append is.order.others is.order.own, length-map is.order.own hash_of)

few_of : (p : LayoutPlan) (is : IsPlanned p) → AreFew p.settings.buckets (first_of p is) (hashes_of p is) (buckets_of p.settings.buckets is.order.own)
few_of p is = record {
  some = is.some;
  below = is.count;
  not_null = omega arith;
  symbols = omega (arith, is.symbols, all_symbols p is);
  same = length-map (hashes_of p is) (bucket_of p.settings.buckets);
  ascending = is.order.ascending;
  small = λ j. hashes_small is.order.own j;
}

abbrev planned_table : (p : LayoutPlan) → IsPlanned p → HashTable
planned_table p is = table_of p.settings.buckets (first_of p is) (hashes_of p is) (buckets_of p.settings.buckets is.order.own)

same_table : (p : LayoutPlan) (is : IsPlanned p) → gnu_of p ≡ planned_table p is
unfolding gnu_table with_words gnu_buckets
same_table p is =
    let count : ℕ = p.settings.buckets in
    let n : ℕ = length p.symbols + 1 in
    ap (λ (first : ℕ). with_words (gnu_words count first (gnu_hashes p.symbols) (gnu_buckets count (gnu_hashes p.symbols))) n) (offset_is p is)
    ∙ ap (λ (hashes : List ℕ). with_words (gnu_words count (first_of p is) hashes (gnu_buckets count hashes)) n) (own_hashes count p.symbols is.order)
    ∙ ap (λ (words : List ℕ). with_words words n) (words_are count (first_of p is) (hashes_of p is) (buckets_of count is.order.own))
    ∙ ap (λ (m : ℕ). with_words (words_of count (first_of p is) (hashes_of p is) (buckets_of count is.order.own)) m) (all_symbols p is)

own_bucket : (count : ℕ) (symbols : List SymbolLine) (j : ℕ) → 0 < count → j < length symbols → get_or (buckets_of count symbols) j 0 ≡ get_or (map hash_of symbols) j 0 % count
unfolding bucket_of
own_bucket count [] j some lt = absurd (omega (arith, lt))
own_bucket count (s ∷ symbols) zero some lt = rw (not_zero count some) refl
own_bucket count (s ∷ symbols) (suc j) some lt = own_bucket count symbols j some (omega (arith, lt))

-- a defined symbol stands behind the others
own_index : (p : LayoutPlan) (is : IsPlanned p) (i : ℕ) (d : SymbolLine) → i < length p.symbols → (get_or p.symbols i d).defined ≡ true → length is.order.others ≤ i
own_index p is i d lt defined = elim (cases_lt i (length is.order.others)) [
  | inr past ↦ past
  | inl before ↦
      let there : get_or p.symbols i d ≡ get_or is.order.others i d = ap (λ (l : List SymbolLine). get_or l i d) is.order.parts ∙ get_or_append_left is.order.others is.order.own d i before in
      let never : (get_or is.order.others i d).defined ≡ false = all_at (λ x. x.defined ≡ false) is.order.others i d before is.order.undefined in
      absurd (false≢true (sym never ∙ sym (ap (λ (s : SymbolLine). s.defined) there) ∙ defined))
]

plan_leads : (p : LayoutPlan) (is : IsPlanned p) (i : ℕ) (d : SymbolLine) → i < length p.symbols → (get_or p.symbols i d).defined ≡ true → is_chain_symbol (planned_table p is) (gnu (get_or p.symbols i d).name) (i + 1) ≡ true
unfolding hash_of
plan_leads p is i d lt defined =
    let count : ℕ = p.settings.buckets in
    let o : IsOrdered count p.symbols = is.order in
    let past : length o.others ≤ i = own_index p is i d lt defined in
    let j : ℕ = i - length o.others in
    let own : get_or p.symbols i d ≡ get_or o.own j d = ap (λ (l : List SymbolLine). get_or l i d) o.parts ∙ get_or-append_right o.others o.own (length o.others) i d refl past in
    let long : length (hashes_of p is) ≡ length o.own = length-map o.own hash_of in
    let inside : j < length o.own = omega (arith, lt, past, ap (λ (l : List SymbolLine). length l) o.parts, length-append o.others o.own) in
    let hashed : get_or (hashes_of p is) j 0 ≡ gnu (get_or p.symbols i d).name = get_or-map hash_of o.own j d 0 inside ∙ sym (ap (λ (s : SymbolLine). gnu s.name) own) in
    let at : first_of p is + j ≡ i + 1 = omega (arith, past) in
    let bucketed : get_or (buckets_of count o.own) j 0 ≡ gnu (get_or p.symbols i d).name % count = own_bucket count o.own j is.some inside ∙ ap (λ (n : ℕ). n % count) hashed in
    subst (λ (n : ℕ). is_chain_symbol (planned_table p is) (gnu (get_or p.symbols i d).name) n ≡ true) at
    (table_leads count (first_of p is) (hashes_of p is) (buckets_of count o.own) (gnu (get_or p.symbols i d).name) j (few_of p is) (omega (arith, inside, long)) hashed bucketed)

pub gnu_whole : GnuIsWhole
gnu_whole r fits =
    let p : LayoutPlan = plan_of r in
    let is : IsPlanned p = is_planned r fits in
    record {
      formed = subst (λ (t : HashTable). well_formed t ≡ true) (sym (same_table p is)) (table_formed p.settings.buckets (first_of p is) (hashes_of p is) (buckets_of p.settings.buckets is.order.own) (few_of p is));
      leads = λ i d lt defined. subst (λ (t : HashTable). is_chain_symbol t (gnu (get_or p.symbols i d).name) (i + 1) ≡ true) (sym (same_table p is)) (plan_leads p is i d lt defined);
    }
