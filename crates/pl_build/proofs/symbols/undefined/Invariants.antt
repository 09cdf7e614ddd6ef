use Rattle.std.proofs.Common.{◌≡◌, ◌++◌, drop}
use Rattle.std.specs.List.{filter}
use Rattle.pl_build.specs.Symbols.{is_undefined}
use Rattle.pl_build.proofs.symbols.undefined.Given as goal

abbrev pub invariant-loop-symbol : goal.invariant-loop-symbol
invariant-loop-symbol l = l.to ++ filter is_undefined (drop l.symbol-index l.symbols) ≡ filter is_undefined l.symbols
