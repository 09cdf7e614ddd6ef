use Rattle.law_sound.proofs.Theorems.{histories}
use Rattle.law_sound.proofs.histories_are_sound.Goals as goal

pub returns : goal.returns
returns g c = histories
