use Rattle.pl_rewrite.proofs.PlaceLaws.{AreLoadedTo}
use Rattle.pl_rewrite.proofs.copies.members_loaded.Given as goal

abbrev pub invariant-loop-row : goal.invariant-loop-row
invariant-loop-row l = AreLoadedTo l.numbered l.walk l.row-index l.members.items
