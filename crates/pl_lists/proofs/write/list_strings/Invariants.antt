use Rattle.std.proofs.Common.{◌≡◌, ◌++◌, drop}
use Rattle.pl_lists.specs.Lists as lists
use Rattle.pl_lists.proofs.write.list_strings.Given as goal

abbrev pub invariant-loop-row : goal.invariant-loop-row
invariant-loop-row l = l.names.items ++ lists.list_strings (drop l.row-index l.rows) ≡ lists.list_strings l.rows
