use Rattle.std.proofs.lemmas.Result.{err_from_is_err_and}
use Rattle.pl_scope.specs.Scope.{objects}
use Rattle.pl_value.proofs.LinkedLaws.{image_ordinary, refused_ordinary}
use Rattle.pl_value.proofs.images.ordinary.Goals as goal

pub returns-in_err-meanings-clause-exact : goal.returns-in_err-meanings-clause-exact
returns-in_err-meanings-clause-exact c =
    let p = err_from_is_err_and c.from_residual.result c.from_residual.ensures.1 in
    rw (p.1, p.2) (refused_ordinary (objects c.args.scope.now) c.args.parts.now c.args.places.now c.args.tls.now _ c.in_err-meanings.ensures)

pub returns-clause-exact : goal.returns-clause-exact
returns-clause-exact c =
    image_ordinary (objects c.args.scope.now) c.args.parts.now c.args.places.now c.args.tls.now c.in_ok-meanings.meanings c.in_ok-image_by.field-0 c.in_ok-meanings.ensures c.in_ok-image_by.ensures.objects
    (rw c.as_slice.ensures at c.in_ok-image_by.ensures.patches)
