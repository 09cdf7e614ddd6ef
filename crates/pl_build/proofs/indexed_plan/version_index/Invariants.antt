use Rattle.std.proofs.Common.{take}
use Rattle.pl_build.specs.IndexedPlan.{is_version}
use Rattle.pl_build.specs.TextIndex.{IsIndexOf}
use Rattle.pl_build.proofs.indexed_plan.version_index.Given as goal

abbrev pub invariant-loop-place : goal.invariant-loop-place
invariant-loop-place l = IsIndexOf is_version (take l.place l.versions) l.index
