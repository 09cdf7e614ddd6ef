use Rattle.pl_journal.proofs.RealLemmas.{firm_same, run_beside}
use Rattle.pl_journal.proofs.laws.runs_beside_a_real_disk.Goals as goal

pub returns-clause-beside : goal.returns-clause-beside
returns-clause-beside c = run_beside

pub returns-clause-same : goal.returns-clause-same
returns-clause-same c = firm_same
