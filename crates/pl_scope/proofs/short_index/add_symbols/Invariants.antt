use Rattle.pl_scope.proofs.ShortIndexLaws.{AreSymbolsTo}
use Rattle.pl_scope.proofs.short_index.add_symbols.Given as goal

abbrev pub invariant-loop-symbol : goal.invariant-loop-symbol
invariant-loop-symbol l = AreSymbolsTo l.object l.member l.symbol l.fn.entries.items l.entries.items
