use Rattle.pl_scope.specs.Index.{IsBehind}
use Rattle.pl_scope.proofs.index.near.Given as goal

abbrev pub invariant-loop-place : goal.invariant-loop-place
invariant-loop-place l = IsBehind l.index l.hash l.place
