use Rattle.std.proofs.Common.{◌≡◌, drop}
use Rattle.std.specs.List.{list_all}
use Rattle.pl_cone.specs.Currency.{all_held, is_held_row}
use Rattle.pl_cone.proofs.currency.is_stale.Given as goal

abbrev pub invariant-loop-member : goal.invariant-loop-member
invariant-loop-member l = list_all (is_held_row l.held) (drop l.member-index l.walk) ≡ all_held l.held l.walk
