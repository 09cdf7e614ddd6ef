use Rattle.std.proofs.Common.{◌≡◌, take}
use Rattle.std.specs.Prelude.{fold}
use Rattle.pl_folder.specs.InMemory.{quiet_files}
use Rattle.pl_demo.specs.Made.{with_demo_file}
use Rattle.pl_demo.proofs.making.make_files.Given as goal

abbrev pub invariant-loop-file : goal.invariant-loop-file
invariant-loop-file l = quiet_files l.folder ≡ fold with_demo_file (quiet_files l.fn.folder) (take l.file-index l.set)
