use Rattle.pl_hash.proofs.LengthLaws.{Passed}
use Rattle.pl_hash.proofs.lengths.chain_length.Given as goal

abbrev pub invariant-loop-passed : goal.invariant-loop-passed
invariant-loop-passed l = Passed l.table l.fn.start l.passed l.at
