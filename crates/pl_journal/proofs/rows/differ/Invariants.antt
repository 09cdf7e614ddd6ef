use Rattle.std.proofs.Common.{◌≡◌, length}
use Rattle.pl_journal.specs.Spelling.{differ}
use Rattle.pl_journal.proofs.rows.differ.Given as goal

abbrev pub invariant-loop-left : goal.invariant-loop-left
invariant-loop-left g l = differ g.N.Named.text l.left ≡ differ g.N.Named.text l.rows

abbrev pub decreases-loop-left : goal.decreases-loop-left
decreases-loop-left g l = length l.left
