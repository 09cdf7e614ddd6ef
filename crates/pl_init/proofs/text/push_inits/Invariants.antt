use Rattle.std.proofs.Common.{◌≡◌, ◌++◌, take}
use Rattle.std.specs.List.{flat_map}
use Rattle.pl_scope.specs.Scope.{walked}
use Rattle.pl_scope.specs.Members.{names}
use Rattle.pl_init.specs.OrderText.{init_line}
use Rattle.pl_init.proofs.text.push_inits.Given as goal

abbrev pub invariant-loop-member : goal.invariant-loop-member
invariant-loop-member l = l.out.items ≡ l.fn.out.items ++ flat_map (init_line (names (walked l.members))) (take l.member-index l.order)
