use Rattle.std.proofs.Common.{◌≡◌, ◌++◌, drop}
use Rattle.pl_folder.specs.Entries.{entries_of}
use Rattle.pl_folder.specs.Replaying.{changes_of, contents_of}
use Rattle.pl_folder.proofs.ReplayLemmas.{binds_from, whole_files}
use Rattle.pl_folder.proofs.replay.Replay.new.Given as goal

abbrev pub invariant-loop-i : goal.invariant-loop-i
invariant-loop-i l = record {
  settled : changes_of l.settled.items ++ binds_from l.i (entries_of (drop l.i l.file-items)) ≡ binds_from 0 (entries_of l.file-items);
  files : contents_of l.files.items ++ whole_files (entries_of (drop l.i l.file-items)) ≡ whole_files (entries_of l.file-items);
}
