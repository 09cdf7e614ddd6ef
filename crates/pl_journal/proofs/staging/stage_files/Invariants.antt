use Rattle.pl_folder.specs.Calls.{Calls}
use Rattle.pl_folder.specs.Seen.{Done}
use Rattle.pl_journal.specs.Parts.{StagesTo}
use Rattle.pl_journal.specs.RealDisk.{RunsFirmly}
use Rattle.pl_journal.proofs.staging.stage_files.Given as goal

abbrev pub invariant-loop-number : goal.invariant-loop-number
invariant-loop-number g l = Calls Done (StagesTo l.number l.changes) (g.D.Folder.seen l.fn.held.folder) (g.D.Folder.seen l.held.folder) × RunsFirmly Done (g.D.Folder.seen l.fn.held.folder) (g.D.Folder.seen l.held.folder)
