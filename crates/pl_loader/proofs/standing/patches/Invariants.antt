use Rattle.std.proofs.Common.{◌≡◌, take}
use Rattle.pl_conflict.specs.Fast as spec
use Rattle.pl_loader.proofs.standing.patches.Given as goal

abbrev pub invariant-loop-row : goal.invariant-loop-row
invariant-loop-row l = l.patches.items ≡ spec.patches (take l.row-index l.rows)
