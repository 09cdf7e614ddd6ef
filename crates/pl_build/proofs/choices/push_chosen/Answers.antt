use Rattle.pl_build.proofs.ListLaws.{chosen_more, chosen_done}
use Rattle.pl_build.proofs.choices.push_chosen.Goals as goal

pub loop-choice-preserved : goal.loop-choice-preserved
loop-choice-preserved g c = chosen_more _ _ _ _ c.choice-item.result _ c.loop-choice-test.true c.choice-item.is c.in_ok-push_one.ensures c.loop-choice.invariant

pub returns : goal.returns
returns g c = chosen_done _ _ _ _ c.loop-choice-test.false c.loop-choice.invariant
