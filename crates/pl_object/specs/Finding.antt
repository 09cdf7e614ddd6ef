-- Definers that a hash table does not find, by a mark for each symbol that it finds.
use Rattle.std.specs.Prelude.{ℕ, ◌+◌, ◌*◌, Bool, false, not, ◌&&◌, ◌||◌, nat_lt, length, Option, Some, None, if◌then◌else◌}
use Rattle.pl_sym.specs.declared.symbol.Symbol.{Symbol}
use Rattle.pl_hash.specs.declared.table.TheConstants.{SYSV_HEADER_SIZE, WORD_SIZE}
use Rattle.pl_hash.specs.ChainSymbols.{name_hash}
use Rattle.pl_hash.specs.Table.{HashTable}
use Rattle.pl_object.specs.SymbolClauses.{defines}

-- a System V table whose bytes have room for one bucket alone, beside the header and a link for each symbol
unfoldable pub has_one_bucket : HashTable → Bool
has_one_bucket table = not table.gnu && nat_lt (length table.words) (SYSV_HEADER_SIZE + WORD_SIZE * (2 + table.symbols))

-- the hash by which a table is asked for a symbol: that of its name, or 0 where the answer is the same or not looked at
unfoldable pub asked_hash : HashTable → Symbol → ℕ
asked_hash table s = if not (defines s) || has_one_bucket table then 0 else name_hash table s.name

abbrev pub is_unfound : Bool → Option Symbol → Bool
is_unfound found None = false
is_unfound found (Some s) = defines s && not found
