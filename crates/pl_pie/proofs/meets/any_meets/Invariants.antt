use Rattle.std.proofs.Common.{◌≡◌, take, false}
use Rattle.std.specs.List.{list_any}
use Rattle.pl_pie.specs.Words.{table_meets}
use Rattle.pl_pie.proofs.meets.any_meets.Given as goal

abbrev pub invariant-loop-table : goal.invariant-loop-table
invariant-loop-table l = list_any (table_meets l.windows l.bytes) (take l.table-index l.tables) ≡ false
