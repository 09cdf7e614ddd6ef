use Rattle.std.proofs.Common.{◌≡◌, take}
use Rattle.pl_scope.specs.Scope.{walked}
use Rattle.pl_texts.specs.Order.{members_of}
use Rattle.pl_texts.proofs.ordering.scope_of.Given as goal

abbrev pub invariant-loop-member : goal.invariant-loop-member
invariant-loop-member l = walked l.scope.items ≡ members_of (take l.member-index l.members)
