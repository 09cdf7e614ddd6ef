use Rattle.pl_safe.proofs.RunLemmas.{firm_disks_sound, images_of_real, real_images_stand, real_writers_end, runs_on_real}
use Rattle.pl_safe.proofs.law.runs_on_real_disks.Goals as goal

pub returns-clause-runs : goal.returns-clause-runs
returns-clause-runs c = runs_on_real

pub returns-clause-images : goal.returns-clause-images
returns-clause-images c = images_of_real

pub returns-clause-stands : goal.returns-clause-stands
returns-clause-stands c = real_images_stand

pub returns-clause-writers : goal.returns-clause-writers
returns-clause-writers c = real_writers_end

pub returns-clause-firm : goal.returns-clause-firm
returns-clause-firm c = firm_disks_sound
