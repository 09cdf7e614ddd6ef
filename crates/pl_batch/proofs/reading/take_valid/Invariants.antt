use Rattle.std.proofs.Common.{drop}
use Rattle.std.specs.List.{All}
use Rattle.pl_journal.specs.Lists.{texts}
use Rattle.pl_rewrite.specs.Taken.{IsTaken}
use Rattle.pl_batch.proofs.ReadLemmas.{TakenSoFar}
use Rattle.pl_batch.proofs.reading.take_valid.Given as goal

abbrev pub invariant-loop-name : goal.invariant-loop-name
invariant-loop-name g l =
    TakenSoFar (g.D.Folder.seen l.fn.folder) (g.D.Folder.seen l.folder) (texts l.names) (texts (drop l.name-index l.names)) l.files × All (IsTaken l.region) l.files
