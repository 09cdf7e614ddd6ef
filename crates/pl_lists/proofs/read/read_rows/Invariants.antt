use Rattle.std.proofs.Common.{◌/◌, length}
use Rattle.pl_base.proofs.EachLaws.{SoFar}
use Rattle.pl_lists.specs.Reading as spec
use Rattle.pl_lists.specs.declared.constants.TheConstants.{LIST_ROW_SIZE}
use Rattle.pl_lists.proofs.read.read_rows.Given as goal

abbrev pub invariant-loop-index : goal.invariant-loop-index
invariant-loop-index l = SoFar (spec.row_at l.table l.strings) (length l.table / LIST_ROW_SIZE) l.index l.rows (spec.rows_of l.table l.strings)
