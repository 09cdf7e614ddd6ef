use Rattle.pl_journal.specs.Meaning.{StandsBetween, StandsFor}
use Rattle.pl_journal.proofs.RealLemmas.{real_crash, real_images, real_lost}
use Rattle.pl_journal.proofs.laws.on_a_real_disk.Goals as goal

pub returns-clause-recovery : goal.returns-clause-recovery
returns-clause-recovery c before = real_crash (StandsFor before)

pub returns-clause-run : goal.returns-clause-run
returns-clause-run c before edits = real_crash (StandsBetween before edits)

pub returns-clause-images : goal.returns-clause-images
returns-clause-images c = real_images

pub returns-clause-lost : goal.returns-clause-lost
returns-clause-lost c = real_lost
