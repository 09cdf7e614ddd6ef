use Rattle.std.proofs.Common.{take}
use Rattle.pl_folder.specs.Disk.{View}
use Rattle.pl_journal.specs.Lists.{IsListOf, texts}
use Rattle.pl_journal.specs.Phases.{AreSteps}
use Rattle.pl_journal.proofs.planning.plan_rows.Given as goal

abbrev pub invariant-loop-number : goal.invariant-loop-number
invariant-loop-number l = (v : View) → IsListOf (texts l.names) v → AreSteps v 0 (take l.number l.rows) l.steps
