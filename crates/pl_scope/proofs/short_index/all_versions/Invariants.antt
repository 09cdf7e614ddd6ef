use Rattle.pl_scope.specs.Scope.{objects}
use Rattle.pl_scope.proofs.ShortIndexLaws.{AreVersionsTo}
use Rattle.pl_scope.proofs.short_index.all_versions.Given as goal

abbrev pub invariant-loop-member : goal.invariant-loop-member
invariant-loop-member l = AreVersionsTo (objects l.scope) l.member l.versions.items
