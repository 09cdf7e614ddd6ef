use Rattle.pl_scope.specs.Scope.{objects}
use Rattle.pl_value.proofs.LinkableLaws.{reloc_is, all_symbols}
use Rattle.pl_value.proofs.values.reloc_of.Goals as goal

pub returns-clause-reloc : goal.returns-clause-reloc
returns-clause-reloc c =
    let o = c.object.result.now in
    rw c.as_slice.ensures (reloc_is (objects c.args.scope.now) c.args.member c.args.reloc o _ c.object.ensures.object (c.requires.reloc o c.object.ensures.object))

pub returns-clause-symbol : goal.returns-clause-symbol
returns-clause-symbol c =
    let o = c.object.result.now in
    rw c.as_slice.ensures (all_symbols (objects c.args.scope.now) c.args.member o c.object.ensures.fit c.object.ensures.object c.args.reloc _ (c.requires.reloc o c.object.ensures.object))
