use Rattle.pl_init.proofs.EarliestLaws.{printed_lawful, printed_steps, printed_earliest, rows_give_printed}
use Rattle.pl_init.proofs.laws.printed_order_is_the_earliest.Goals as goal

pub returns-clause-lawful : goal.returns-clause-lawful
returns-clause-lawful c = printed_lawful

pub returns-clause-steps : goal.returns-clause-steps
returns-clause-steps c = printed_steps

pub returns-clause-earliest : goal.returns-clause-earliest
returns-clause-earliest c = printed_earliest

pub returns-clause-rows : goal.returns-clause-rows
returns-clause-rows c = rows_give_printed
