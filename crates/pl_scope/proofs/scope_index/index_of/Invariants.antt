use Rattle.pl_scope.specs.Numbers.{AreNumbersOf}
use Rattle.pl_scope.specs.Scope.{objects}
use Rattle.pl_scope.proofs.ScopeIndexLaws.{IsIndexTo}
use Rattle.pl_scope.proofs.scope_index.index_of.Given as goal

abbrev pub invariant-loop-member : goal.invariant-loop-member
invariant-loop-member l = record {
  named : AreNumbersOf (objects l.scope) l.index.numbers;
  so_far : IsIndexTo (objects l.scope) l.index.numbers l.member l.index.members.items l.index.own.items;
}
