use Rattle.std.proofs.lemmas.List.Elements.{All-push, All-same}
use Rattle.pl_scope.specs.Scope.{IsAccepted}
use Rattle.pl_link_tests.proofs.scope.objects_of.Goals as goal

pub loop-sample-preserved : goal.loop-sample-preserved
loop-sample-preserved c = All-same IsAccepted _ _ c.in_ok-push.ensures.items (All-push IsAccepted c.loop-sample.objects.items c.in_ok-object_of.field-0 c.loop-sample.invariant c.in_ok-object_of.ensures)
