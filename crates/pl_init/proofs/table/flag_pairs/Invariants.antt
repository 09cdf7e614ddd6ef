use Rattle.std.proofs.Common.{take}
use Rattle.pl_init.specs.Flags.{IsTable}
use Rattle.pl_init.proofs.table.flag_pairs.Given as goal

abbrev pub invariant-loop-row : goal.invariant-loop-row
invariant-loop-row l = IsTable l.cells (take l.row-index l.rows)
