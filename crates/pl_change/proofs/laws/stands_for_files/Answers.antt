use Rattle.pl_change.proofs.RestoredLemmas.{one_before, restored_before}
use Rattle.pl_change.proofs.laws.stands_for_files.Goals as goal

pub returns-clause-stands : goal.returns-clause-stands
returns-clause-stands c = restored_before

pub returns-clause-one : goal.returns-clause-one
returns-clause-one c = one_before
