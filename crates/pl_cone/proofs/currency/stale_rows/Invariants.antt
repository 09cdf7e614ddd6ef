use Rattle.std.proofs.Common.{◌≡◌, map}
use Rattle.std.specs.List.{range_with_len}
use Rattle.pl_cone.specs.Currency.{stale_at}
use Rattle.pl_cone.proofs.currency.stale_rows.Given as goal

abbrev pub invariant-loop-row : goal.invariant-loop-row
invariant-loop-row l = l.stale ≡ map (stale_at l.table l.held.items) (range_with_len 0 l.row)
