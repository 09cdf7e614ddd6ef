use Rattle.pl_journal.specs.Meaning.{StandsBetween, StandsFor}
use Rattle.pl_journal.proofs.Moments.{since_start}
use Rattle.pl_journal.proofs.laws.since_the_start.Goals as goal

pub returns-clause-recovery : goal.returns-clause-recovery
returns-clause-recovery c before old new = since_start old new (StandsFor before)

pub returns-clause-run : goal.returns-clause-run
returns-clause-run c before edits old new = since_start old new (StandsBetween before edits)
