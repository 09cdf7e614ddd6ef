use Rattle.std.proofs.Common.{drop}
use Rattle.pl_journal.specs.Lists.{texts}
use Rattle.pl_change.specs.Undo.{if_valid}
use Rattle.pl_change.proofs.RowLemmas.{SoFar}
use Rattle.pl_change.proofs.undoing.undo_all.Given as goal

abbrev pub invariant-loop-name : goal.invariant-loop-name
invariant-loop-name g l = SoFar if_valid (g.D.Folder.seen l.fn.folder) (g.D.Folder.seen l.folder) (texts l.names) (texts (drop l.name-index l.names)) l.rows
