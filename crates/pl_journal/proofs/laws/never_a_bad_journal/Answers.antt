use Rattle.std.proofs.Common.{is_some, ap}
use Rattle.std.proofs.lemmas.Bool.{both_ways}
use Rattle.std.specs.FinMap.{get}
use Rattle.pl_journal.specs.Names.{journal}
use Rattle.pl_journal.specs.Rows.{rows_in}
use Rattle.pl_journal.proofs.Meanings.{recovery_leaves, run_leaves}
use Rattle.pl_journal.proofs.laws.never_a_bad_journal.Goals as goal

pub returns-clause-run : goal.returns-clause-run
returns-clause-run c before edits no_own fine v stands = run_leaves before no_own edits fine v stands

pub returns-clause-recovery : goal.returns-clause-recovery
returns-clause-recovery c before v good stands = recovery_leaves before v good stands

pub returns-clause-end : goal.returns-clause-end
returns-clause-end c old new told good call = both_ways (is_some (rows_in (get old.files journal))) (ap is_some (call.files told).0) good
