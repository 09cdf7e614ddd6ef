use Rattle.std.proofs.Common.{◌≡◌, drop}
use Rattle.std.specs.List.{fold}
use Rattle.pl_build.specs.Needed.{file_added, files_of}
use Rattle.pl_build.proofs.needed.files_of.Given as goal

abbrev pub invariant-loop-need : goal.invariant-loop-need
invariant-loop-need l = fold file_added l.files (drop l.need-index l.needs) ≡ files_of l.needs
