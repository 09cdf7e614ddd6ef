use Rattle.std.proofs.Common.{◌≡◌, map, take}
use Rattle.pl_object.specs.Tables.{window_range}
use Rattle.pl_object.proofs.ranges.ranges_of.Given as goal

abbrev pub invariant-loop-window : goal.invariant-loop-window
invariant-loop-window l = l.ranges ≡ map window_range (take l.window-index l.windows)
