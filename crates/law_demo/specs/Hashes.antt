-- The System V hash table of a built file.
use Rattle.std.specs.Prelude.{◌≡◌, ℕ, ◌+◌, ◌^◌, ◌<◌, true, false, length, get_or}
use Rattle.pl_hash.specs.ChainSymbols.{is_chain_symbol}
use Rattle.pl_hash.specs.Chain.{well_formed}
use Rattle.pl_hash.specs.Hash.{sysv}
use Rattle.pl_hash.specs.Table.{HashTable}
use Rattle.pl_build.specs.declared.line.SymbolLine.{SymbolLine}
use Rattle.pl_build.specs.declared.layout_plan.LayoutPlan.{LayoutPlan}
use Rattle.pl_build.specs.HashTables.{sysv_table}

-- as it is read, with the null symbol among the symbols
abbrev pub sysv_of : LayoutPlan → HashTable
sysv_of p = record { words = sysv_table p; gnu = false; symbols = length p.symbols + 1 }

pub record FitsBuckets (p : LayoutPlan) : Type 0 where
  pub some : 0 < p.settings.buckets
  pub count : p.settings.buckets < 2 ^ 32
  pub symbols : length p.symbols + 1 < 2 ^ 32

-- it is well formed, and leads to each symbol of the plan by the hash of its name
pub record IsWhole (p : LayoutPlan) : Type 0 where
  pub formed : well_formed (sysv_of p) ≡ true
  pub leads : (i : ℕ) (d : SymbolLine) → i < length p.symbols → is_chain_symbol (sysv_of p) (sysv (get_or p.symbols i d).name) (i + 1) ≡ true

abbrev pub SysvIsWhole : Type 0
SysvIsWhole = (p : LayoutPlan) → FitsBuckets p → IsWhole p
