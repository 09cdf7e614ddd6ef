use Rattle.law_sound.proofs.Theorems.{others_write}
use Rattle.law_sound.proofs.others_are_sound.Goals as goal

pub returns : goal.returns
returns g c = others_write
