use Rattle.law_sound.proofs.Theorems.{from_scratch}
use Rattle.law_sound.proofs.current_is_from_scratch.Goals as goal

pub returns : goal.returns
returns g c = from_scratch
