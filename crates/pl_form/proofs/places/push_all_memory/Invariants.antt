use Rattle.std.proofs.Common.{◌≡◌, ◌++◌, drop}
use Rattle.pl_form.specs.Back.{memory_of}
use Rattle.pl_form.proofs.places.push_all_memory.Given as goal

abbrev pub invariant-loop-spot : goal.invariant-loop-spot
invariant-loop-spot l = l.out.items ++ memory_of (drop l.spot-index l.spots) l.bytes ≡ l.initial.out.items ++ memory_of l.spots l.bytes
