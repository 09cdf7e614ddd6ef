use Rattle.std.proofs.Common.{◌≡◌, ◌++◌, drop}
use Rattle.pl_build.specs.HashTables.{gnu_hashes}
use Rattle.pl_build.proofs.hash_tables.gnu_hashes.Given as goal

abbrev pub invariant-loop-symbol : goal.invariant-loop-symbol
invariant-loop-symbol l = l.hashes.items ++ gnu_hashes (drop l.symbol-index l.symbols) ≡ gnu_hashes l.symbols
