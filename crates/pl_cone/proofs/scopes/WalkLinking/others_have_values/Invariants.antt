use Rattle.std.proofs.Common.{◌≡◌, drop}
use Rattle.pl_value.specs.Meanings.{rows_from}
use Rattle.pl_cone.specs.Links.{objects_of, others_have, rows_have_in}
use Rattle.pl_cone.proofs.scopes.WalkLinking.others_have_values.Given as goal

abbrev pub invariant-loop-member : goal.invariant-loop-member
invariant-loop-member l = rows_have_in l.self (rows_from l.member (drop l.member (objects_of l.self))) ≡ others_have l.self
