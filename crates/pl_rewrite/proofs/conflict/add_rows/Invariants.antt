use Rattle.pl_rewrite.proofs.RowsLaws.{Rowed}
use Rattle.pl_rewrite.proofs.conflict.add_rows.Given as goal

abbrev pub invariant-loop-one : goal.invariant-loop-one
invariant-loop-one l = Rowed l.linking l.member l.relocs l.held l.one-index l.fn.rows.items l.rows.items
