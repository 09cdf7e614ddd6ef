use Rattle.pl_hash.proofs.LengthLaws.{AreNoted}
use Rattle.pl_hash.proofs.lengths.note.Given as goal

abbrev pub invariant-loop-at : goal.invariant-loop-at
invariant-loop-at l = AreNoted l.table l.fn.lengths l.lengths l.fn.start l.at l.left

abbrev pub decreases-loop-at : goal.decreases-loop-at
decreases-loop-at l = l.left
