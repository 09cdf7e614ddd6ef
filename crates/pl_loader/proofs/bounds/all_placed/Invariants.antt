use Rattle.std.proofs.Common.{◌≡◌, map, take, length}
use Rattle.std.specs.List.{zip}
use Rattle.pl_loader.specs.Started.{placed_at}
use Rattle.pl_loader.proofs.bounds.all_placed.Given as goal

abbrev pub invariant-loop-file : goal.invariant-loop-file
invariant-loop-file l = l.objects ≡ map placed_at (take (length l.yielded) (zip l.files l.places))
