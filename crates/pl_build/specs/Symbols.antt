-- The order of the symbols: those that a recipe refers to, then those that it defines, by their bucket in the GNU hash table if there is one.
use Rattle.std.specs.Prelude.{ℕ, ◌%◌, Bool, true, false, not, ◌&&◌, ◌==◌, List, [], ◌∷◌, ◌++◌, filter, if◌then◌else◌}
use Rattle.std.specs.List.{flat_map, range_with_len}
use Rattle.pl_hash.specs.Hash.{gnu}
use Rattle.pl_build.specs.declared.line.SymbolLine.{SymbolLine}
use Rattle.pl_build.specs.declared.recipe.Settings.{Settings}

-- the bucket of a hash; a table has at least one
unfoldable pub bucket_of : ℕ → ℕ → ℕ
bucket_of buckets hash = if buckets == 0 then 0 else hash % buckets

unfoldable pub bucket : Settings → SymbolLine → ℕ
bucket s symbol = if s.hashes.gnu then bucket_of s.buckets (gnu symbol.name) else 0

unfoldable pub is_in : Settings → ℕ → SymbolLine → Bool
is_in s b symbol = symbol.defined && bucket s symbol == b

abbrev pub is_undefined : SymbolLine → Bool
is_undefined symbol = not symbol.defined

-- a symbol at the end of a list, if it is kept
abbrev pub kept : Bool → SymbolLine → List SymbolLine → List SymbolLine
kept true symbol symbols = symbols ++ symbol ∷ []
kept false symbol symbols = symbols

-- the symbols of a bucket stay in the recipe's order
unfoldable pub ordered : Settings → List SymbolLine → List SymbolLine
ordered s symbols = filter is_undefined symbols ++ flat_map (λ b. filter (is_in s b) symbols) (range_with_len 0 s.buckets)
