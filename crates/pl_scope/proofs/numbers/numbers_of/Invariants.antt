use Rattle.pl_scope.specs.Scope.{objects}
use Rattle.pl_scope.proofs.NumberLaws.{AreNumbersTo}
use Rattle.pl_scope.proofs.numbers.numbers_of.Given as goal

abbrev pub invariant-loop-member : goal.invariant-loop-member
invariant-loop-member l = AreNumbersTo (objects l.scope) l.member l.numbers
