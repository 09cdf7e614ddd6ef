use Rattle.std.proofs.Common.{◌≡◌, map}
use Rattle.std.specs.List.{range_with_len}
use Rattle.pl_cone.specs.Currency.{stamp_at}
use Rattle.pl_cone.proofs.currency.stamps_of.Given as goal

abbrev pub invariant-loop-row : goal.invariant-loop-row
invariant-loop-row l = l.stamps ≡ map (stamp_at l.files l.stale l.stamp) (range_with_len 0 l.row)
