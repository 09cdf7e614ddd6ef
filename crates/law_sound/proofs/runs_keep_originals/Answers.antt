use Rattle.law_sound.proofs.Theorems.{originals}
use Rattle.law_sound.proofs.runs_keep_originals.Goals as goal

pub returns : goal.returns
returns g c = originals
