use Rattle.pl_scope.specs.Scope.{objects}
use Rattle.pl_scope.proofs.ShortIndexLaws.{HaveDefinersTo}
use Rattle.pl_scope.proofs.short_index.all_definers.Given as goal

abbrev pub invariant-loop-member : goal.invariant-loop-member
invariant-loop-member l = HaveDefinersTo (objects l.scope) l.member l.entries.items
