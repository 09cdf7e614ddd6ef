use Rattle.std.proofs.Common.{◌≡◌, drop}
use Rattle.pl_build.specs.Dynamic.{place_of}
use Rattle.pl_build.proofs.dynamic.place_of.Given as goal

abbrev pub invariant-loop-place : goal.invariant-loop-place
invariant-loop-place l = place_of (drop l.place-index l.places) l.name ≡ place_of l.places l.name
