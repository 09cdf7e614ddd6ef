use Rattle.pl_scope.proofs.DefinerLaws.{IsListTo}
use Rattle.pl_scope.proofs.definers.list_of.Given as goal

abbrev pub invariant-loop-symbol : goal.invariant-loop-symbol
invariant-loop-symbol l = IsListTo l.listed.numbers.now l.listed.versions.now l.listed.object.now l.listing l.symbol l.entries.items
