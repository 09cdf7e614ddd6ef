use Rattle.std.proofs.Common.{◌≡◌, ◌++◌, drop}
use Rattle.std.specs.List.{filter}
use Rattle.pl_build.specs.Symbols.{is_in}
use Rattle.pl_build.proofs.symbols.add_bucket.Given as goal

abbrev pub invariant-loop-symbol : goal.invariant-loop-symbol
invariant-loop-symbol l = l.to ++ filter (is_in l.settings l.number) (drop l.symbol-index l.symbols) ≡ l.initial.to ++ filter (is_in l.settings l.number) l.symbols
