use Rattle.pl_folder.specs.Calls.{Calls}
use Rattle.pl_folder.specs.Seen.{Done}
use Rattle.pl_journal.specs.Parts.{DoesTo}
use Rattle.pl_journal.specs.RealDisk.{RunsFirmly}
use Rattle.pl_journal.proofs.doing.do_rows.Given as goal

abbrev pub invariant-loop-step : goal.invariant-loop-step
invariant-loop-step g l = Calls Done (DoesTo l.step-index l.steps) (g.D.Folder.seen l.fn.held.folder) (g.D.Folder.seen l.held.folder) × RunsFirmly Done (g.D.Folder.seen l.fn.held.folder) (g.D.Folder.seen l.held.folder)
