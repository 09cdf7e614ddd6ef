use Rattle.std.proofs.Common.{◌≡◌, map, take}
use Rattle.pl_loader.specs.Places.{load_range}
use Rattle.pl_loader.proofs.placing.program_ranges.Given as goal

abbrev pub invariant-loop-segment : goal.invariant-loop-segment
invariant-loop-segment l = l.ranges.items ≡ map load_range (take l.segment-index l.segment-items)
