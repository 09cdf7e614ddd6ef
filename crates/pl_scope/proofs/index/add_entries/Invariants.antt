use Rattle.std.proofs.Common.{◌≡◌, ◌++◌, drop}
use Rattle.pl_scope.specs.Index.{entries_from, entries_in}
use Rattle.pl_scope.proofs.index.add_entries.Given as goal

abbrev pub invariant-loop-number : goal.invariant-loop-number
invariant-loop-number l = l.entries.items ++ entries_from l.object l.member l.number (drop l.number l.object.symbols) ≡ l.fn.entries.items ++ entries_in l.object l.member
