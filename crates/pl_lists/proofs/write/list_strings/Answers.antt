use Rattle.pl_lists.proofs.WriteLaws.{names_more, names_done}
use Rattle.pl_lists.proofs.write.list_strings.Goals as goal

pub loop-row-preserved : goal.loop-row-preserved
loop-row-preserved c = names_more _ _ c.row-item.result _ _ c.loop-row-test.true c.row-item.is c.in_ok-push_name.ensures c.loop-row.invariant

pub returns : goal.returns
returns c = names_done _ _ _ c.loop-row-test.false c.loop-row.invariant
