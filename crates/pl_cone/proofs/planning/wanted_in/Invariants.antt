use Rattle.std.proofs.Common.{◌≡◌, ◌++◌, drop}
use Rattle.pl_cone.specs.Slots.{positions_in}
use Rattle.pl_cone.proofs.planning.wanted_in.Given as goal

abbrev pub invariant-loop-row : goal.invariant-loop-row
invariant-loop-row l = l.all ++ positions_in l.positions (drop l.row-index l.walk) ≡ positions_in l.positions l.walk
