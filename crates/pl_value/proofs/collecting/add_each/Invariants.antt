use Rattle.std.proofs.Common.{◌≡◌, map, drop}
use Rattle.pl_base.specs.Each.{each, with_front}
use Rattle.pl_scope.specs.Scope.{objects}
use Rattle.pl_value.specs.Meanings as spec
use Rattle.pl_value.proofs.collecting.add_each.Given as goal

abbrev pub invariant-loop-reloc : goal.invariant-loop-reloc
invariant-loop-reloc l =
    record {
      so_far :
          with_front l.meanings (each (spec.meaning (objects l.fn.kept) l.places l.tls) (drop l.reloc-index (map (spec.row l.member) l.relocs)))
          ≡ with_front l.fn.meanings (each (spec.meaning (objects l.fn.kept) l.places l.tls) (map (spec.row l.member) l.relocs));
      same : l.kept ≡ l.fn.kept;
    }
