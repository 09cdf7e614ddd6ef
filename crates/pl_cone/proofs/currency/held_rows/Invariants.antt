use Rattle.std.proofs.Common.{◌≡◌, map}
use Rattle.std.specs.List.{range_with_len}
use Rattle.pl_cone.specs.Currency.{held_at}
use Rattle.pl_cone.proofs.currency.held_rows.Given as goal

abbrev pub invariant-loop-row : goal.invariant-loop-row
invariant-loop-row l = l.held.items ≡ map (held_at l.table l.places) (range_with_len 0 l.row)
