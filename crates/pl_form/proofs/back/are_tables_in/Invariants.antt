use Rattle.std.proofs.Common.{◌≡◌, drop}
use Rattle.pl_base.specs.Windows.{are_in}
use Rattle.pl_move.specs.Moves.{table_windows}
use Rattle.pl_form.proofs.back.are_tables_in.Given as goal

abbrev pub invariant-loop-table : goal.invariant-loop-table
invariant-loop-table l = are_in l.size (table_windows (drop l.table-index l.tables)) ≡ are_in l.size (table_windows l.tables)
