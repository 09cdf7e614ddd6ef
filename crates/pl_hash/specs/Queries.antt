-- What is asked of the chains, and the answers.
use Rattle.std.specs.Prelude.{◌≡◌, ◌<◌, ℕ, ◌%◌, ◌^◌, Bool, ◌==◌, [], List, length, slice_index, slice_index_or, Option, None}
use Rattle.std.specs.List.{list_any, list_all}
use Rattle.std.specs.Option.{unwrap_or}
use Rattle.pl_hash.specs.Table.{HashTable}
use Rattle.pl_hash.specs.declared.jumps.Query.{Query}
use Rattle.pl_hash.specs.Table.{bucket_count}
use Rattle.pl_hash.specs.Chain.{head, chain}
use Rattle.pl_hash.specs.Jumps.{reach, is_at}

-- no steps at all
abbrev pub nowhere : Query
nowhere = record { at = None; left = 0 }

abbrev pub query_at : List Query → ℕ → Query
query_at qs index = slice_index_or qs index nowhere

-- the symbol that a query has come to
abbrev pub place_at : List Query → ℕ → Option ℕ
place_at qs index = (query_at qs index).at

-- the steps of a query lead to a symbol exactly where a bucket's chain has it
abbrev pub IsQuery : HashTable → ℕ → ℕ → Query → Type 0
IsQuery table k index q = is_at index (reach table q.left q.at) ≡ list_any (λ i. i == index) (unwrap_or (chain table (head table k)) [])

-- one for each of the first symbols, by its hash
abbrev pub AreQueries : HashTable → List ℕ → ℕ → List Query → Type 0
AreQueries table hashes count qs =
    (length qs ≡ count)
    × ((index : ℕ) → index < count → IsQuery table (slice_index hashes index % bucket_count table) index (query_at qs index))
    × ((index : ℕ) → index < count → (query_at qs index).left < 2 ^ 32)

-- queries that have come to where their steps lead
abbrev pub AreAnswered : HashTable → List Query → List Query → Type 0
AreAnswered table first qs =
    (length qs ≡ length first)
    × ((index : ℕ) → index < length first → place_at qs index ≡ reach table (query_at first index).left (query_at first index).at)

unfoldable pub all_done : List Query → Bool
all_done qs = list_all (λ q. q.left == 0) qs
