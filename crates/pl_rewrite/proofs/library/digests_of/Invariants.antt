use Rattle.std.proofs.Common.{take}
use Rattle.pl_rewrite.specs.Rows.{AreDigests}
use Rattle.pl_rewrite.proofs.library.digests_of.Given as goal

abbrev pub invariant-loop-row : goal.invariant-loop-row
invariant-loop-row l = AreDigests (take l.row l.files) l.digests.items
