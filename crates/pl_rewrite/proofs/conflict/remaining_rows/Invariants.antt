use Rattle.pl_rewrite.proofs.RowsLaws.{Listed}
use Rattle.pl_rewrite.specs.Ranges.{ranges_of}
use Rattle.pl_rewrite.proofs.conflict.remaining_rows.Given as goal

abbrev pub invariant-loop-member : goal.invariant-loop-member
invariant-loop-member l = Listed l.linking l.walk l.row_words (ranges_of l.own) l.member l.found_rows.rows.items l.found_rows.near.items
