use Rattle.std.proofs.Common.{take}
use Rattle.pl_build.specs.Relocations.{is_written_as}
use Rattle.pl_build.specs.TextIndex.{IsIndexOf}
use Rattle.pl_build.proofs.indexed_plan.symbol_index.Given as goal

abbrev pub invariant-loop-place : goal.invariant-loop-place
invariant-loop-place l = IsIndexOf is_written_as (take l.place l.symbols) l.index
