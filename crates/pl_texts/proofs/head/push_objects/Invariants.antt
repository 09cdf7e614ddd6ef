use Rattle.std.proofs.Common.{◌≡◌, ◌++◌, take}
use Rattle.std.specs.List.{flat_map}
use Rattle.pl_texts.specs.LoadText.{object_line}
use Rattle.pl_texts.proofs.head.push_objects.Given as goal

abbrev pub invariant-loop-object : goal.invariant-loop-object
invariant-loop-object l = l.out.items ≡ l.fn.out.items ++ flat_map object_line (take l.object-index l.objects)
