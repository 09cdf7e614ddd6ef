use Rattle.std.proofs.Common.{◌≡◌, ◌++◌, drop, map}
use Rattle.std.specs.List.{flat_map}
use Rattle.pl_build.specs.SymbolTable.{entry_bytes, entry_of, symbol_table}
use Rattle.pl_build.proofs.symbol_table.symbol_table.Given as goal

abbrev pub invariant-loop-symbol : goal.invariant-loop-symbol
invariant-loop-symbol l = l.out.items ++ flat_map entry_bytes (map (entry_of l.plan) (drop l.symbol-index l.symbols)) ≡ symbol_table l.plan
