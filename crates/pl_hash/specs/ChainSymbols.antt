-- The symbols that a hash leads to (System V: gABI chapter 5, "Hash Table"; GNU: the GNU hash table of binutils).
use Rattle.std.specs.Prelude.{ℕ, ◌%◌, Bool, List, [], ◌∷◌, Option, Some, None, filter, ◌==◌, if◌then◌else◌}
use Rattle.std.specs.List.{list_any}
use Rattle.std.specs.Option.{unwrap_or}
use Rattle.pl_hash.specs.Table.{HashTable}
use Rattle.pl_hash.specs.Hash.{gnu, sysv}
use Rattle.pl_hash.specs.Table.{bucket_count, admits, matches}
use Rattle.pl_hash.specs.Chain.{head, chain}

-- the hash that a table goes by
abbrev pub name_hash : HashTable → List ℕ → ℕ
name_hash table name = if table.gnu then gnu name else sysv name

-- the symbols of a chain that may have a hash
unfoldable pub matching : HashTable → ℕ → Option ℕ → List ℕ
matching table hash start = filter (matches table hash) (unwrap_or (chain table start) [])

-- The symbols that a hash leads to, in the order of their chain. System V: its bucket's chain. GNU: none where the bloom word refuses the hash, else those of the chain whose link has the upper 31 bits of the hash.
unfoldable pub chain_symbols : HashTable → ℕ → List ℕ
chain_symbols table hash = if admits table hash then matching table hash (head table (hash % bucket_count table)) else []

-- whether a hash leads to a symbol
abbrev pub is_chain_symbol : HashTable → ℕ → ℕ → Bool
is_chain_symbol table hash index = list_any (λ k. k == index) (chain_symbols table hash)

-- ---- one after the other

-- the ones after this one
abbrev pub rest_after : ℕ → List ℕ → List ℕ
rest_after index [] = []
rest_after index (x ∷ xs) = if x == index then xs else rest_after index xs

-- a symbol and the ones after it
abbrev pub rest_from : Option ℕ → List ℕ → List ℕ
rest_from None xs = []
rest_from (Some index) xs = index ∷ rest_after index xs
