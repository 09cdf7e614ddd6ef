use Rattle.std.proofs.Common.{drop}
use Rattle.pl_lists.proofs.DistinctLaws.{AreLater}
use Rattle.pl_lists.proofs.read.are_distinct.Given as goal

abbrev pub invariant-loop-index : goal.invariant-loop-index
invariant-loop-index l = AreLater l.later (drop l.index l.rows)
