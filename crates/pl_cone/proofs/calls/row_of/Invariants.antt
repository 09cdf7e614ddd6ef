use Rattle.std.proofs.Common.{◌≡◌, drop}
use Rattle.std.specs.Prelude.{find}
use Rattle.pl_cone.specs.Calls.{is_named}
use Rattle.pl_cone.proofs.calls.row_of.Given as goal

abbrev pub invariant-loop-row : goal.invariant-loop-row
invariant-loop-row l = find (is_named l.name) (drop l.row l.files) ≡ find (is_named l.name) l.files
