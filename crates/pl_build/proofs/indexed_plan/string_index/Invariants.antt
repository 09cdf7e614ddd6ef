use Rattle.std.proofs.Common.{take}
use Rattle.pl_build.specs.StringTable.{has_text}
use Rattle.pl_build.specs.TextIndex.{IsIndexOf}
use Rattle.pl_build.proofs.indexed_plan.string_index.Given as goal

abbrev pub invariant-loop-place : goal.invariant-loop-place
invariant-loop-place l = IsIndexOf has_text (take l.place l.entries) l.index
