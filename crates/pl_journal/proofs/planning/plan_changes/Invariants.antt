use Rattle.std.proofs.Common.{take}
use Rattle.pl_journal.specs.Leaves.{DoEdits}
use Rattle.pl_journal.proofs.planning.plan_changes.Given as goal

abbrev pub invariant-loop-number : goal.invariant-loop-number
invariant-loop-number l = DoEdits 0 (take l.number l.changes) l.steps
