use Rattle.std.proofs.Common.{◌≡◌, length}
use Rattle.std.specs.Option.{option_map}
use Rattle.pl_scope.specs.Finds as spec
use Rattle.pl_scope.specs.Scope.{objects}
use Rattle.pl_scope.proofs.lookup.first_in_order.Given as goal

abbrev pub invariant-loop-member : goal.invariant-loop-member
invariant-loop-member l =
    spec.first_in (objects l.scope) l.wanted.name.now l.wanted.class (option_map (λ x. x.now) l.wanted.version) (spec.from_member l.member (length l.scope))
    ≡ spec.first_in (objects l.scope) l.wanted.name.now l.wanted.class (option_map (λ x. x.now) l.wanted.version) (spec.from_member l.start (length l.scope))
