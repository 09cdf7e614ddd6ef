use Rattle.std.proofs.Common.{take}
use Rattle.pl_object.proofs.CrossingLaws.{AreFurthest}
use Rattle.pl_object.proofs.crossing.furthest_windows.Given as goal

abbrev pub invariant-loop-window : goal.invariant-loop-window
invariant-loop-window l = AreFurthest (take l.window-index l.tables) l.last l.all.items
