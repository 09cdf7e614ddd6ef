use Rattle.law_folder.proofs.SoundLemmas.{recoveries_sound, runs_sound, settled_sound}
use Rattle.law_folder.proofs.sound.images_stay_sound.Goals as goal

pub returns-clause-recovery : goal.returns-clause-recovery
returns-clause-recovery g c = recoveries_sound

pub returns-clause-run : goal.returns-clause-run
returns-clause-run g c = runs_sound

pub returns-clause-settled : goal.returns-clause-settled
returns-clause-settled g c = settled_sound
