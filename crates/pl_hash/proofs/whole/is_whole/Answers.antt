use Rattle.pl_hash.proofs.JumpLaws.{formed_answer}
use Rattle.pl_hash.proofs.whole.is_whole.Goals as goal

pub returns-clause-facts : goal.returns-clause-facts
returns-clause-facts c = formed_answer c.args.table.now c.checked.result c.checked.ensures
