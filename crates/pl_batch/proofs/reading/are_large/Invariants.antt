use Rattle.std.proofs.Common.{drop}
use Rattle.pl_batch.proofs.SizeLemmas.{LeftFor}
use Rattle.pl_batch.proofs.reading.are_large.Given as goal

abbrev pub invariant-loop-taken : goal.invariant-loop-taken
invariant-loop-taken l = LeftFor l.left (drop l.taken-index l.files) l.files
