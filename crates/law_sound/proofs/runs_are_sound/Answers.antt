use Rattle.law_sound.proofs.Theorems.{runs}
use Rattle.law_sound.proofs.runs_are_sound.Goals as goal

pub returns : goal.returns
returns g c = runs
