use Rattle.std.proofs.Common.{◌≡◌, ◌++◌, drop, map}
use Rattle.pl_build.specs.Packed.{packed_place}
use Rattle.pl_build.proofs.packed.packed_places.Given as goal

abbrev pub invariant-loop-word : goal.invariant-loop-word
invariant-loop-word l = l.places.items ++ map (packed_place l.plan.settings) (drop l.word-index l.packed) ≡ map (packed_place l.plan.settings) l.plan.packed
