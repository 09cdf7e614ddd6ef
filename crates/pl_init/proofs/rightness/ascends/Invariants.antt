use Rattle.std.proofs.Common.{◌≡◌, drop}
use Rattle.pl_init.specs.Right as spec
use Rattle.pl_init.proofs.rightness.ascends.Given as goal

abbrev pub invariant-loop-row : goal.invariant-loop-row
invariant-loop-row l = spec.ascends l.last (drop l.row-index l.rows) ≡ spec.ascends 0 l.rows
