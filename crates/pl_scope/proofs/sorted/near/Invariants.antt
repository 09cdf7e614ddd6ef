use Rattle.pl_scope.specs.Sorted.{IsBehind}
use Rattle.pl_scope.proofs.sorted.near.Given as goal

abbrev pub invariant-loop-place : goal.invariant-loop-place
invariant-loop-place l = IsBehind l.entries l.key l.place
