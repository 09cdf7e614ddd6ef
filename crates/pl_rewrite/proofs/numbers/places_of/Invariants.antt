use Rattle.std.proofs.Common.{◌≡◌, take}
use Rattle.pl_rewrite.specs.Rows.{places_of}
use Rattle.pl_rewrite.proofs.numbers.places_of.Given as goal

abbrev pub invariant-loop-row : goal.invariant-loop-row
invariant-loop-row l = l.rows ≡ places_of l.places (take l.row-index l.walk)
