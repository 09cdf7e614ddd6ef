use Rattle.std.proofs.Common.{◌≡◌, drop}
use Rattle.std.specs.List.{fold}
use Rattle.pl_build.specs.Needed.{need_added, needs_of}
use Rattle.pl_build.proofs.needed.needs_of.Given as goal

abbrev pub invariant-loop-symbol : goal.invariant-loop-symbol
invariant-loop-symbol l = fold need_added l.needs (drop l.symbol-index l.symbols) ≡ needs_of l.symbols
