use Rattle.std.proofs.Common.{◌≡◌, ◌++◌, take}
use Rattle.std.specs.List.{flat_map}
use Rattle.pl_scope.specs.Scope.{walked}
use Rattle.pl_scope.specs.Members.{names}
use Rattle.pl_init.specs.OrderText.{reach_line}
use Rattle.pl_init.proofs.text.push_rows.Given as goal

abbrev pub invariant-loop-row : goal.invariant-loop-row
invariant-loop-row l = l.out.items ≡ l.fn.out.items ++ flat_map (reach_line (names (walked l.members))) (take l.row-index l.rows)
