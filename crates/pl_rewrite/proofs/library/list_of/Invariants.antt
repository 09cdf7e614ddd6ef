use Rattle.pl_rewrite.proofs.DigestLaws.{ListedTo}
use Rattle.pl_rewrite.proofs.library.list_of.Given as goal

abbrev pub invariant-loop-other : goal.invariant-loop-other
invariant-loop-other l = ListedTo l.numbered l.others l.other-index l.rows
