use Rattle.pl_hash.proofs.LengthLaws.{AllNoted}
use Rattle.pl_hash.proofs.lengths.note_all.Given as goal

abbrev pub invariant-loop-k : goal.invariant-loop-k
invariant-loop-k l = AllNoted l.table l.lengths l.k
