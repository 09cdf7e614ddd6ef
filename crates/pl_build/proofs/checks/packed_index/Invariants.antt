use Rattle.std.proofs.Common.{take}
use Rattle.pl_build.specs.PackedIndex.{IsPackedIndex}
use Rattle.pl_build.proofs.checks.packed_index.Given as goal

abbrev pub invariant-loop-place : goal.invariant-loop-place
invariant-loop-place l = IsPackedIndex (take l.place l.lines) l.index
