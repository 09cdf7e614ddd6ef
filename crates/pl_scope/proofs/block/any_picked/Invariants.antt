use Rattle.std.proofs.Common.{take}
use Rattle.pl_scope.specs.Block.{takes}
use Rattle.pl_scope.proofs.BlockLaws.{NonePasses}
use Rattle.pl_scope.proofs.block.any_picked.Given as goal

abbrev pub invariant-loop-entry : goal.invariant-loop-entry
invariant-loop-entry l = NonePasses (takes l.block l.pick) (take l.entry-index l.among)
