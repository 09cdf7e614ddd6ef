use Rattle.pl_sym.proofs.EndLaws.{AreSizesFrom}
use Rattle.pl_sym.proofs.string_ends.note_sizes.Given as goal

abbrev pub invariant-loop-block : goal.invariant-loop-block
invariant-loop-block l = AreSizesFrom l.bytes l.sizes l.block

abbrev pub decreases-loop-block : goal.decreases-loop-block
decreases-loop-block l = l.block
