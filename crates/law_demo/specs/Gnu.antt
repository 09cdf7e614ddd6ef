-- The GNU hash table of a built file.
use Rattle.std.specs.Prelude.{◌≡◌, ℕ, ◌+◌, ◌^◌, ◌<◌, true, length, get_or}
use Rattle.pl_hash.specs.ChainSymbols.{is_chain_symbol}
use Rattle.pl_hash.specs.Chain.{well_formed}
use Rattle.pl_hash.specs.Hash.{gnu}
use Rattle.pl_hash.specs.Table.{HashTable}
use Rattle.pl_build.specs.declared.line.SymbolLine.{SymbolLine}
use Rattle.pl_build.specs.declared.layout_plan.LayoutPlan.{LayoutPlan}
use Rattle.pl_build.specs.declared.recipe.Recipe.{Recipe}
use Rattle.pl_build.specs.HashTables.{gnu_table}
use Rattle.pl_build.specs.LayoutPlan.{plan_of}

-- as it is read, with the null symbol among the symbols
abbrev pub gnu_of : LayoutPlan → HashTable
gnu_of p = record { words = gnu_table p; gnu = true; symbols = length p.symbols + 1 }

-- a recipe of a file with such a table
pub record FitsGnu (r : Recipe) : Type 0 where
  pub has : r.settings.hashes.gnu ≡ true
  pub some : 0 < r.settings.buckets
  pub count : r.settings.buckets < 2 ^ 32
  pub symbols : length (plan_of r).symbols + 1 < 2 ^ 32

-- it is well formed, and leads to each symbol that the plan defines by the hash of its name
pub record IsGnuWhole (p : LayoutPlan) : Type 0 where
  pub formed : well_formed (gnu_of p) ≡ true
  pub leads : (i : ℕ) (d : SymbolLine) → i < length p.symbols → (get_or p.symbols i d).defined ≡ true → is_chain_symbol (gnu_of p) (gnu (get_or p.symbols i d).name) (i + 1) ≡ true

abbrev pub GnuIsWhole : Type 0
GnuIsWhole = (r : Recipe) → FitsGnu r → IsGnuWhole (plan_of r)
