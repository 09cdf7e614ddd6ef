use Rattle.std.proofs.Common.{◌≡◌, take}
use Rattle.std.specs.Prelude.{fold}
use Rattle.pl_folder.specs.InMemory.{quiet_files}
use Rattle.pl_demo.specs.Counted.{none, with_counts}
use Rattle.pl_demo.proofs.counting.all_counts.Given as goal

abbrev pub invariant-loop-file : goal.invariant-loop-file
invariant-loop-file l = record {
  counts : l.total ≡ fold (with_counts (quiet_files l.fn.folder)) none (take l.file-index l.set);
  same : quiet_files l.folder ≡ quiet_files l.fn.folder;
}
