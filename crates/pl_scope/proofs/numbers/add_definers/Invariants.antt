use Rattle.pl_scope.proofs.NumberLaws.{AreDefinersTo}
use Rattle.pl_scope.proofs.numbers.add_definers.Given as goal

abbrev pub invariant-loop-symbol : goal.invariant-loop-symbol
invariant-loop-symbol l = AreDefinersTo l.object l.symbol-index l.fn.numbers l.numbers
