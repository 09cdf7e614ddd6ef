use Rattle.std.proofs.Common.{◌≡◌, ◌+◌, ◌^◌, take}
use Rattle.std.specs.List.{sum_by}
use Rattle.pl_relr.specs.Pack.{bit_of}
use Rattle.pl_relr.proofs.packing.odd_entry.Given as goal

abbrev pub invariant-loop-place : goal.invariant-loop-place
invariant-loop-place l = l.entry ≡ sum_by (λ place. 2 ^ bit_of l.next place) (take l.place-index l.places) + 1
