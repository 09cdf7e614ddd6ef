use Rattle.std.proofs.Common.{◌≡◌, take}
use Rattle.std.specs.List.{flat_map}
use Rattle.pl_rewrite.specs.Rows.{windows_of}
use Rattle.pl_rewrite.proofs.apart.are_apart.Given as goal

abbrev pub invariant-loop-row : goal.invariant-loop-row
invariant-loop-row l = l.windows.items ≡ flat_map (windows_of l.numbered) (take l.row-index l.walk)
