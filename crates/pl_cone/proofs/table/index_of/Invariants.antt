use Rattle.std.proofs.Common.{◌≡◌, map, take}
use Rattle.std.specs.Option.{option_map}
use Rattle.pl_cone.specs.Table.{folder_objects}
use Rattle.pl_cone.proofs.table.index_of.Given as goal

abbrev pub invariant-loop-taken : goal.invariant-loop-taken
invariant-loop-taken l = map (option_map (λ o. o.now)) l.objects.items ≡ folder_objects (take l.taken-index l.files)
