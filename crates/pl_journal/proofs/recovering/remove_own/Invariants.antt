use Rattle.std.proofs.Common.{drop}
use Rattle.pl_folder.specs.Calls.{Calls}
use Rattle.pl_folder.specs.Seen.{Done}
use Rattle.pl_journal.specs.Lists.{texts}
use Rattle.pl_journal.specs.Parts.{RemovesTo}
use Rattle.pl_journal.specs.RealDisk.{RunsFirmly}
use Rattle.pl_journal.proofs.recovering.remove_own.Given as goal

abbrev pub invariant-loop-name : goal.invariant-loop-name
invariant-loop-name g l = Calls Done (RemovesTo (texts l.names) (texts (drop l.name-index l.names))) (g.D.Folder.seen l.fn.held.folder) (g.D.Folder.seen l.held.folder) × RunsFirmly Done (g.D.Folder.seen l.fn.held.folder) (g.D.Folder.seen l.held.folder)
