use Rattle.law_sound.proofs.Theorems.{mixtures}
use Rattle.law_sound.proofs.mixtures_are_sound.Goals as goal

pub returns : goal.returns
returns g c = mixtures
