use Rattle.pl_loader.proofs.StartLaws.{linked_is}
use Rattle.pl_loader.proofs.linking.linked.Goals as goal

pub returns-in-Ok-clause-ok : goal.returns-in-Ok-clause-ok
returns-in-Ok-clause-ok c =
    linked_is c.args.files.now c.args.places.now c.args.modules.now c.in-Ok.image
    (rw (c.in_ok-scope.ensures.objects, c.in_ok-parts.ensures) at c.in-Ok.ensures.exact) (rw (c.in_ok-scope.ensures.objects, c.in_ok-parts.ensures) at c.in-Ok.ensures.objects)
