use Rattle.std.proofs.Common.{◌/◌, length}
use Rattle.pl_base.proofs.EachLaws.{SoFar}
use Rattle.pl_lists.specs.Reading as spec
use Rattle.pl_lists.specs.declared.constants.TheConstants.{CONFLICT_SIZE}
use Rattle.pl_lists.proofs.conflicts.read_rows.Given as goal

abbrev pub invariant-loop-index : goal.invariant-loop-index
invariant-loop-index l = SoFar (spec.conflict_at l.table) (length l.table / CONFLICT_SIZE) l.index l.rows (spec.conflict_rows_of l.table)
