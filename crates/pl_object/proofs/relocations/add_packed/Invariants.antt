use Rattle.std.proofs.Common.{◌≡◌, ◌++◌, map, take}
use Rattle.pl_object.specs.Relocations.{packed_reloc}
use Rattle.pl_object.proofs.relocations.add_packed.Given as goal

abbrev pub invariant-loop-address : goal.invariant-loop-address
invariant-loop-address l = l.relocs.items ≡ l.fn.relocs.items ++ map (packed_reloc l.bytes l.loads) (take l.address-index l.addresses)
