-- How many symbols chains have.
use Rattle.std.specs.Prelude.{◌≡◌, ◌<◌, ◌≤◌, ℕ, ◌+◌, ◌-◌, nat_le, false, is_some, List, length, slice_index, Option, Some, None, if◌then◌else◌}
use Rattle.pl_hash.specs.Table.{HashTable}
use Rattle.pl_hash.specs.Table.{bucket_count}
use Rattle.pl_hash.specs.Chain.{head, following, chain_from, chain}

-- a chain ends after exactly so many symbols
abbrev pub EndsAfter : HashTable → Option ℕ → ℕ → Type 0
EndsAfter table start count = (steps : ℕ) → is_some (chain_from table steps start) ≡ nat_le count steps

-- the sum of two counts, if it is at most the count of symbols
abbrev pub sum_of : HashTable → ℕ → ℕ → Option ℕ
sum_of table passed known = if nat_le known (table.symbols - passed) then Some (passed + known) else None

-- what a walk over a chain gives: its length, which is at most the count of symbols, or that it does not end
abbrev pub IsLength : HashTable → Option ℕ → Option ℕ → Type 0
IsLength table start None = is_some (chain table start) ≡ false
IsLength table start (Some count) = EndsAfter table start count × (count ≤ table.symbols)

-- the length of the chain from a symbol on is known where it is not 0
abbrev pub IsKnown : List ℕ → Option ℕ → Type 0
IsKnown lengths None = Unit {0}
IsKnown lengths (Some index) = 0 < slice_index lengths index

-- the lengths that are known, one for each symbol: they are right, and the symbol after one with a length has one too
pub record AreLengths (table : HashTable) (lengths : List ℕ) : Type 0 where
  pub size : length lengths ≡ table.symbols
  pub right : (index : ℕ) → 0 < slice_index lengths index → EndsAfter table (Some index) (slice_index lengths index)
  pub closed : (index : ℕ) → 0 < slice_index lengths index → IsKnown lengths (following table index)

-- those of all buckets' chains are known
pub record HasLengths (table : HashTable) (lengths : List ℕ) : Type 0 where
  pub are : AreLengths table lengths
  pub heads : (k : ℕ) → k < bucket_count table → IsKnown lengths (head table k)
