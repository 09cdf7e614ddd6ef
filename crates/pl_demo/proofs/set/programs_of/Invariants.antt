use Rattle.std.proofs.Common.{◌≡◌, take}
use Rattle.std.specs.List.{flat_map}
use Rattle.pl_demo.specs.Demo.{program_name}
use Rattle.pl_demo.proofs.set.programs_of.Given as goal

abbrev pub invariant-loop-file : goal.invariant-loop-file
invariant-loop-file l = l.names ≡ flat_map program_name (take l.file-index l.set)
