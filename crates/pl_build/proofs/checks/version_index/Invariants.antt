use Rattle.std.proofs.Common.{take}
use Rattle.pl_build.specs.Checks.{defines}
use Rattle.pl_build.specs.TextIndex.{IsIndexOf}
use Rattle.pl_build.proofs.checks.version_index.Given as goal

abbrev pub invariant-loop-place : goal.invariant-loop-place
invariant-loop-place l = IsIndexOf defines (take l.place l.lines) l.index
