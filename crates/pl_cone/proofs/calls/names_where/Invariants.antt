use Rattle.std.proofs.Common.{◌≡◌, ◌++◌, drop}
use Rattle.pl_cone.specs.Table.{names_where}
use Rattle.pl_cone.proofs.calls.names_where.Given as goal

abbrev pub invariant-loop-row : goal.invariant-loop-row
invariant-loop-row l = l.names ++ names_where (drop l.row l.files) (drop l.row l.stale) ≡ names_where l.files l.stale
