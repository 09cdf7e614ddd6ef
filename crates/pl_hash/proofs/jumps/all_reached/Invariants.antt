use Rattle.pl_hash.proofs.JumpLaws.{AreOwn}
use Rattle.pl_hash.proofs.jumps.all_reached.Given as goal

abbrev pub invariant-loop-index : goal.invariant-loop-index
invariant-loop-index l = AreOwn l.table l.hashes l.queries l.index l.own.items
