use Rattle.pl_cone.proofs.UnderLaws.{IsUnder}
use Rattle.pl_cone.proofs.walking.NumberWalk.walk_of.Given as goal

abbrev pub invariant-loop-index : goal.invariant-loop-index
invariant-loop-index l = IsUnder l.needs l.row l.index l.self
