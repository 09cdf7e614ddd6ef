-- The chains of a hash table (System V: gABI chapter 5, "Hash Table"; GNU: the GNU hash table of binutils), and what makes a table well formed.
use Rattle.std.specs.Prelude.{◌<◌, ◌≤◌, IsTrue, IsSome, ℕ, zero, suc, ◌+◌, ◌%◌, Bool, ◌&&◌, ◌||◌, ◌==◌, nat_lt, nat_le, List, [], ◌∷◌, length, Option, Some, None, is_some, if◌then◌else◌}
use Rattle.std.specs.List.{range_with_len, list_all}
use Rattle.std.specs.Int.{is_power_of_two}
use Rattle.pl_hash.specs.Table.{HashTable}
use Rattle.pl_hash.specs.declared.table.TheConstants.{WORD_SIZE}
use Rattle.pl_hash.specs.Table.{has_header, HasHeader, bucket_count, chain_count, bloom_size, chains_at, first_linked, link_at, bucket, link}

-- ---- one chain

-- the first symbol of a bucket's chain; a bucket of 0 has none
unfoldable pub head : HashTable → ℕ → Option ℕ
head table k = if bucket table k == 0 then None else Some (bucket table k)

-- the symbol after one in its chain. A System V chain ends at the link 0, a GNU chain at the first link with a low bit of 1.
unfoldable pub following : HashTable → ℕ → Option ℕ
following table index =
    if table.gnu then (if link table index % 2 == 1 then None else Some (index + 1))
    else (if link table index == 0 then None else Some (link table index))

-- a symbol of the object whose link lies in the table
unfoldable pub is_linked : HashTable → ℕ → Bool
is_linked table index =
    nat_le (first_linked table) index && nat_lt index table.symbols && nat_le (link_at table index + WORD_SIZE) (length table.words)

-- the same as facts
pub record IsLinked (table : HashTable) (index : ℕ) : Type 0 where
  pub below : index < table.symbols
  pub within : link_at table index + WORD_SIZE ≤ length table.words

-- a symbol before the rest of its chain, where there is one
abbrev pub with_first : ℕ → Option (List ℕ) → Option (List ℕ)
with_first index None = None
with_first index (Some rest) = Some (index ∷ rest)

-- The symbols from one on to the end of its chain. There is no such list where one of them has no link, or where the chain does not end within so many steps.
unfoldable pub chain_from : HashTable → ℕ → Option ℕ → Option (List ℕ)
chain_from table steps None = Some []
chain_from table zero (Some index) = None
chain_from table (suc steps) (Some index) = if is_linked table index then with_first index (chain_from table steps (following table index)) else None

-- a chain that ends has no more symbols than the object
unfoldable pub chain : HashTable → Option ℕ → Option (List ℕ)
chain table start = chain_from table table.symbols start

-- ---- the whole table

-- there is a bucket, and the buckets lie in the table
unfoldable pub has_buckets : HashTable → Bool
has_buckets table = nat_lt 0 (bucket_count table) && nat_le (chains_at table) (length table.words)

-- the same as facts
pub record HasBuckets (table : HashTable) : Type 0 where
  pub header : HasHeader table
  pub some : 0 < bucket_count table
  pub within : chains_at table ≤ length table.words

-- a System V table has a link for each symbol; a GNU table's count of bloom words is a power of two
unfoldable pub is_counted : HashTable → Bool
is_counted table = if table.gnu then is_power_of_two (bloom_size table) else chain_count table == table.symbols

-- each bucket is 0
unfoldable pub has_empty_buckets : HashTable → Bool
has_empty_buckets table = list_all (λ k. bucket table k == 0) (range_with_len 0 (bucket_count table))

-- the links of all symbols lie in the table; a GNU table whose buckets are all 0 has no links, and ends after its buckets
unfoldable pub has_links : HashTable → Bool
has_links table = table.gnu && has_empty_buckets table || nat_le (link_at table table.symbols) (length table.words)

-- each chain stays among the linked symbols, and ends
unfoldable pub chains_end : HashTable → Bool
chains_end table = list_all (λ k. is_some (chain table (head table k))) (range_with_len 0 (bucket_count table))

-- counts, buckets, links and chains stay in the table and below the count of symbols, and each chain ends
unfoldable pub well_formed : HashTable → Bool
well_formed table = has_header table && has_buckets table && is_counted table && has_links table && chains_end table

-- what a look-up needs of a well formed table
pub record IsWellFormed (table : HashTable) : Type 0 where
  pub buckets : HasBuckets table
  pub bloom : IsTrue table.gnu → 0 < bloom_size table
  pub ends : (k : ℕ) → k < bucket_count table → IsSome (chain table (head table k))
