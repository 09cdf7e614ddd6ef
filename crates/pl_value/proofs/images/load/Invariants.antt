use Rattle.std.proofs.Common.{◌≡◌, ◌+◌, ◌≤◌, ◌++◌, true, drop}
use Rattle.std.specs.List.{All}
use Rattle.pl_elf.specs.declared.constants.TheConstants.{ADDRESS_LIMIT}
use Rattle.pl_image.specs.Image.{ascends}
use Rattle.pl_scope.specs.Scope.{objects}
use Rattle.pl_value.specs.Ordinary as spec
use Rattle.pl_value.proofs.images.load.Given as goal

abbrev pub invariant-loop-member : goal.invariant-loop-member
invariant-loop-member l = record {
  so_far : l.loaded.items ++ spec.loaded_from l.places l.parts l.member (drop l.member (objects l.scope)) ≡ spec.loaded_objects l.places l.parts (objects l.scope);
  ascend : All (λ o. ascends 0 o.pieces ≡ true) l.loaded.items;
  fit : All (λ o. All (λ l. l.start + l.size ≤ ADDRESS_LIMIT) o.mask.loads) l.loaded.items;
}
