use Rattle.std.proofs.Common.{◌∙◌}
use Rattle.pl_init.proofs.RelationLaws.{lawful_answer}
use Rattle.pl_init.proofs.orders.check.Goals as goal

pub returns : goal.returns
returns c = lawful_answer c.args.scope.now c.args.reach.now.rows c.args.order.now c.lawful.result c.requires.walk c.requires.right (rw (← (c.of-table.ensures ∙ c.as_slice.ensures), ← c.count.ensures.count) c.lawful.ensures)
