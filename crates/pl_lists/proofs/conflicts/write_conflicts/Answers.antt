use Rattle.pl_lists.proofs.WriteLaws.{conflicts_more, conflicts_done}
use Rattle.pl_lists.proofs.conflicts.write_conflicts.Goals as goal

pub loop-row-preserved : goal.loop-row-preserved
loop-row-preserved c = conflicts_more _ _ (record { address = 0; word = 0 }) _ _ c.loop-row-test.true c.in_ok-push_conflict.ensures c.loop-row.invariant

pub returns-clause-table : goal.returns-clause-table
returns-clause-table c = conflicts_done _ _ _ c.loop-row-test.false c.loop-row.invariant

pub returns-clause-spelled : goal.returns-clause-spelled
returns-clause-spelled c = λ spelled. record { in_table = conflicts_done _ _ _ c.loop-row-test.false c.loop-row.invariant; is_spelled = spelled }
