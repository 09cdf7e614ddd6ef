use Rattle.std.proofs.Common.{take}
use Rattle.std.specs.List.{AllZip}
use Rattle.pl_conflict.specs.Between.{HoldsBetween}
use Rattle.pl_scope.specs.Scope.{objects}
use Rattle.pl_value.specs.Definers.{IsSought}
use Rattle.pl_value.specs.Values.{reference}
use Rattle.pl_cone.specs.Links.{GivesOneWordOf}
use Rattle.pl_cone.proofs.linking.library_link.Given as goal

abbrev pub invariant-loop-number : goal.invariant-loop-number
invariant-loop-number l = record {
  found : AllZip (λ r f. IsSought (objects l.own.scope) (reference 0 r) f) (take l.number l.relocs) l.found;
  remaining : HoldsBetween (GivesOneWordOf l.index (objects l.own.scope) l.relocs) l.number 0 l.remaining;
}
