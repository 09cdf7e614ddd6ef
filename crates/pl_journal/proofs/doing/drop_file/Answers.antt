use Rattle.pl_journal.proofs.CommitLemmas.{steps_drop}
use Rattle.pl_journal.proofs.RealLemmas.{firmly_removed}
use Rattle.pl_journal.proofs.doing.drop_file.Goals as goal

pub returns-clause-calls : goal.returns-clause-calls
returns-clause-calls g c = steps_drop c.args.name.now c.as_str.result.now c.as_str.ensures.value c.remove.ensures

pub returns-clause-real : goal.returns-clause-real
returns-clause-real g c = firmly_removed _ c.remove.ensures
