use Rattle.std.proofs.Common.{◌≡◌, ◌++◌, ◌≤◌, drop}
use Rattle.pl_folder.specs.Replaying.{contents_of, keeps, shown_files}
use Rattle.pl_folder.proofs.replay.shown.Given as goal

abbrev pub invariant-loop-file : goal.invariant-loop-file
invariant-loop-file l = record {
  few : l.loose ≤ l.file-index;
  so_far : contents_of l.shown.items ++ shown_files (keeps l.choice) l.loose (contents_of (drop l.file-index l.files)) ≡ shown_files (keeps l.choice) 0 (contents_of l.files);
}
