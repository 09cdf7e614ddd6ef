use Rattle.std.proofs.Common.{◌≡◌, ◌++◌, ◌+◌, drop, length}
use Rattle.pl_lists.specs.Lists as lists
use Rattle.pl_lists.proofs.write.list_bytes.Given as goal

abbrev pub invariant-loop-row : goal.invariant-loop-row
invariant-loop-row l = record {
  bytes : l.table.items ++ lists.list_bytes l.at (drop l.row-index l.rows) ≡ lists.list_bytes l.fn.start l.rows;
  room : l.at + length (lists.list_strings (drop l.row-index l.rows)) ≡ l.fn.start + length (lists.list_strings l.rows);
}
