use Rattle.std.proofs.Common.{◌≡◌, drop}
use Rattle.pl_base.specs.Each.{each, with_front}
use Rattle.pl_scope.specs.Scope.{objects}
use Rattle.pl_value.specs.Meanings as spec
use Rattle.pl_value.proofs.collecting.meanings.Given as goal

abbrev pub invariant-loop-member : goal.invariant-loop-member
invariant-loop-member l =
    record {
      so_far :
          with_front l.meanings (each (spec.meaning (objects l.scope) l.places l.tls) (spec.rows_from l.member (drop l.member (objects l.scope))))
          ≡ each (spec.meaning (objects l.scope) l.places l.tls) (spec.rows (objects l.scope));
      same : l.kept ≡ l.scope;
    }
