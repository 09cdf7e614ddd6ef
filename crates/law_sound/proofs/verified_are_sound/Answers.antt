use Rattle.law_sound.proofs.Theorems.{verified}
use Rattle.law_sound.proofs.verified_are_sound.Goals as goal

pub returns : goal.returns
returns g c = verified
