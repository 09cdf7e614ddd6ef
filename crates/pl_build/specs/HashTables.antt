-- The hash tables of symbols: System V (gABI chapter 5, "Hash Table") and GNU.
use Rattle.std.specs.Prelude.{ℕ, ◌+◌, ◌*◌, ◌/◌, ◌^◌, Bool, ◌==◌, List, [], ◌∷◌, ◌++◌, length, map, filter, drop, fold, count_by, position, Option, Some, None, bit_or, slice_index, if◌then◌else◌}
use Rattle.std.specs.List.{list_any, range_with_len}
use Rattle.pl_base.specs.Sums.{plus}
use Rattle.pl_hash.specs.Hash.{sysv, gnu}
use Rattle.pl_hash.specs.Table.{first_bit, second_bit}
use Rattle.pl_build.specs.declared.constants.TheConstants.{BLOOM_COUNT, BLOOM_SHIFT_BITS}
use Rattle.pl_build.specs.declared.fields.Field.TheVariants.{Word, Xword}
use Rattle.pl_build.specs.declared.line.SymbolLine.{SymbolLine}
use Rattle.pl_build.specs.declared.layout_plan.LayoutPlan.{LayoutPlan}
use Rattle.pl_build.specs.Fields.{fields}
use Rattle.pl_build.specs.Symbols.{bucket_of, is_undefined}

-- where the first of the buckets of symbols is b; from an index on
abbrev pub position_of : List ℕ → ℕ → Option ℕ
position_of buckets b = position (λ k. k == b) buckets

abbrev pub found : List ℕ → ℕ → ℕ → Option ℕ
found buckets from b = position_of (drop from buckets) b

-- ---- System V: all symbols but the null one. Symbol number 1 is the first of the list

unfoldable pub sysv_buckets : LayoutPlan → List ℕ
sysv_buckets p = map (λ s. bucket_of p.settings.buckets (sysv s.name)) p.symbols

abbrev pub number_or_none : ℕ → Option ℕ → ℕ
number_or_none from None = 0
number_or_none from (Some k) = from + k + 1

-- the number of the first symbol of a bucket, from an index on; 0 where there is none
unfoldable pub first_from : List ℕ → ℕ → ℕ → ℕ
first_from buckets from b = number_or_none from (found buckets from b)

-- the next symbol of the same bucket
unfoldable pub next_after : List ℕ → ℕ → ℕ
next_after buckets index = first_from buckets (index + 1) (slice_index buckets index)

unfoldable pub sysv_words : ℕ → List ℕ → List ℕ
sysv_words count buckets =
    fields (Word count ∷ Word (length buckets + 1) ∷ [])
    ++ fields (map (λ b. Word (first_from buckets 0 b)) (range_with_len 0 count))
    ++ fields (Word 0 ∷ [])
    ++ fields (map (λ k. Word (next_after buckets k)) (range_with_len 0 (length buckets)))

unfoldable pub sysv_table : LayoutPlan → List ℕ
sysv_table p = sysv_words p.settings.buckets (sysv_buckets p)

-- ---- GNU: the defined symbols, which stand last

abbrev pub is_defined : SymbolLine → Bool
is_defined s = s.defined

unfoldable pub hash_of : SymbolLine → ℕ
hash_of s = gnu s.name

abbrev pub gnu_hashes : List SymbolLine → List ℕ
gnu_hashes symbols = map hash_of (filter is_defined symbols)

unfoldable pub gnu_buckets : ℕ → List ℕ → List ℕ
gnu_buckets count hashes = map (bucket_of count) hashes

-- the number of the first defined symbol
unfoldable pub symoffset : LayoutPlan → ℕ
symoffset p = count_by is_undefined p.symbols + 1

-- the two bits of a hash in the one bloom word
unfoldable pub bloom_more : ℕ → ℕ → ℕ
bloom_more word hash = bit_or (bit_or word (2 ^ first_bit hash)) (2 ^ second_bit hash BLOOM_SHIFT_BITS)

unfoldable pub bloom : List ℕ → ℕ
bloom hashes = fold bloom_more 0 hashes

abbrev pub offset_by : ℕ → Option ℕ → ℕ
offset_by first None = 0
offset_by first (Some k) = plus first k

unfoldable pub gnu_first : ℕ → List ℕ → ℕ → ℕ
gnu_first first buckets b = offset_by first (found buckets 0 b)

-- whether a later symbol has the bucket of one
unfoldable pub goes_on : List ℕ → ℕ → Bool
goes_on buckets index = list_any (λ b. b == slice_index buckets index) (drop (index + 1) buckets)

-- the hash, its lowest bit 1 at the last symbol of a bucket and 0 elsewhere
unfoldable pub gnu_chain : List ℕ → List ℕ → ℕ → ℕ
gnu_chain hashes buckets index = slice_index hashes index / 2 * 2 + (if goes_on buckets index then 0 else 1)

unfoldable pub gnu_words : ℕ → ℕ → List ℕ → List ℕ → List ℕ
gnu_words count first hashes buckets =
    fields (Word count ∷ Word first ∷ Word BLOOM_COUNT ∷ Word BLOOM_SHIFT_BITS ∷ Xword (bloom hashes) ∷ [])
    ++ fields (map (λ b. Word (gnu_first first buckets b)) (range_with_len 0 count))
    ++ fields (map (λ k. Word (gnu_chain hashes buckets k)) (range_with_len 0 (length hashes)))

unfoldable pub gnu_table : LayoutPlan → List ℕ
gnu_table p = gnu_words p.settings.buckets (symoffset p) (gnu_hashes p.symbols) (gnu_buckets p.settings.buckets (gnu_hashes p.symbols))
