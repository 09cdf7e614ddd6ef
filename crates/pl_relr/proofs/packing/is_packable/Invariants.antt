use Rattle.std.proofs.Common.{◌≡◌, drop}
use Rattle.pl_relr.specs.Pack.{is_packable_from, is_packable}
use Rattle.pl_relr.proofs.packing.is_packable.Given as goal

abbrev pub invariant-loop-place : goal.invariant-loop-place
invariant-loop-place l = is_packable_from l.next (drop l.place-index l.places) ≡ is_packable l.places
