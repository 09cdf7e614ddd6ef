use Rattle.pl_journal.proofs.CommitLemmas.{steps_put}
use Rattle.pl_journal.proofs.RealLemmas.{firmly_named}
use Rattle.pl_journal.proofs.doing.put_file.Goals as goal

pub returns-clause-calls : goal.returns-clause-calls
returns-clause-calls g c = steps_put c.args.from.now c.args.to.now c.as_str.result.now c.as_str-2.result.now c.as_str.ensures.value c.as_str-2.ensures.value c.requires c.name_firm.ensures

pub returns-clause-real : goal.returns-clause-real
returns-clause-real g c = firmly_named _ _ c.name_firm.ensures
