use Rattle.std.proofs.Common.{◌≤◌, drop, length}
use Rattle.std.specs.List.{All}
use Rattle.pl_folder.specs.declared.TheConstants.{STORED}
use Rattle.pl_journal.specs.Lists.{texts}
use Rattle.pl_change.proofs.CopyLemmas.{CopiedSoFar, File}
use Rattle.pl_change.proofs.copying.take_files.Given as goal

abbrev pub invariant-loop-name : goal.invariant-loop-name
invariant-loop-name g l =
    CopiedSoFar (g.D.Folder.seen l.fn.folder) (g.D.Folder.seen l.folder) (texts l.names) (texts (drop l.name-index l.names)) l.files.items × All (λ (file : File). length file.1.items ≤ STORED) l.files.items
