use Rattle.std.proofs.Common.{take}
use Rattle.pl_build.specs.Checks.{writes}
use Rattle.pl_build.specs.TextIndex.{IsIndexOf}
use Rattle.pl_build.proofs.checks.written_index.Given as goal

abbrev pub invariant-loop-place : goal.invariant-loop-place
invariant-loop-place l = IsIndexOf writes (take l.place l.lines) l.index
