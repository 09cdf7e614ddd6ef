use Rattle.std.proofs.Common.{◌≡◌, take, map}
use Rattle.std.specs.List.{filter_map}
use Rattle.pl_scope.specs.Members.{names}
use Rattle.pl_scope.specs.Scope.{walked}
use Rattle.pl_init.specs.Graph.{number}
use Rattle.pl_init.proofs.graph.graph_of.Given as goal

abbrev pub invariant-loop-member : goal.invariant-loop-member
invariant-loop-member l = l.graph ≡ map (λ member. filter_map (number (names (walked l.members))) member.1.needed) (take l.member-index (walked l.members))
