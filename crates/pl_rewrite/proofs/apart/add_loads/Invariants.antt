use Rattle.std.proofs.Common.{◌≡◌, ◌++◌, map, take}
use Rattle.pl_conflict.specs.Prelinked as spec
use Rattle.pl_elf.specs.Headers.{loads}
use Rattle.pl_rewrite.proofs.apart.add_loads.Given as goal

abbrev pub invariant-loop-segment : goal.invariant-loop-segment
invariant-loop-segment l = l.windows.items ≡ l.fn.windows.items ++ map spec.load_window (loads (take l.segment-index l.segment-items))
