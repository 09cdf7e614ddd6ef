use Rattle.std.specs.List.{All}
use Rattle.indexmap.specs.IndexMap.{values}
use Rattle.pl_scope.specs.Scope.{IsAccepted}
use Rattle.pl_link_tests.proofs.samples.by_name.Given as goal

abbrev pub invariant-loop-line : goal.invariant-loop-line
invariant-loop-line l = All IsAccepted (values l.objects)
