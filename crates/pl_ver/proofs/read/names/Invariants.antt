use Rattle.std.proofs.Common.{◌≡◌, map, take}
use Rattle.pl_ver.specs.Versions.{named}
use Rattle.pl_ver.proofs.read.names.Given as goal

abbrev pub invariant-loop-row : goal.invariant-loop-row
invariant-loop-row l = l.names ≡ map (named l.strings) (take l.row-index l.records)
