use Rattle.std.specs.List.{All}
use Rattle.indexmap.specs.IndexMap.{values}
use Rattle.pl_scope.specs.Scope.{IsAccepted}
use Rattle.pl_link_tests.proofs.init.wide_objects.Given as goal

abbrev pub invariant-loop-member : goal.invariant-loop-member
invariant-loop-member l = All IsAccepted (values l.objects)
