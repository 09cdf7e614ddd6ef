use Rattle.std.proofs.Common.{take}
use Rattle.pl_rewrite.specs.Copies.{AreProgramFills}
use Rattle.pl_rewrite.proofs.copies.fills_of.Given as goal

abbrev pub invariant-loop-index : goal.invariant-loop-index
invariant-loop-index l = AreProgramFills l.filling (take l.index l.relocs) (take l.index l.meanings) l.fills.items
