use Rattle.law_folder.proofs.SoundLemmas.{others_sound, verified_sound}
use Rattle.law_folder.proofs.sound.others_stay_sound.Goals as goal

pub returns-clause-others : goal.returns-clause-others
returns-clause-others c = others_sound

pub returns-clause-verified : goal.returns-clause-verified
returns-clause-verified c = verified_sound
