use Rattle.pl_tls.proofs.LayoutLaws.{AreSoFar}
use Rattle.pl_tls.proofs.layout.offsets.Given as goal

abbrev pub invariant-loop-member : goal.invariant-loop-member
invariant-loop-member l = AreSoFar l.blocks l.member l.number l.reached l.modules
