use Rattle.std.proofs.Common.{◌≡◌, drop}
use Rattle.pl_cone.specs.Currency.{lists_members}
use Rattle.pl_cone.proofs.currency.lists_members.Given as goal

abbrev pub invariant-loop-index : goal.invariant-loop-index
invariant-loop-index l = lists_members l.files (drop l.index l.list) (drop l.index l.others) ≡ lists_members l.files l.list l.others
