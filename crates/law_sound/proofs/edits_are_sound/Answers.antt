use Rattle.law_sound.proofs.Theorems.{edits}
use Rattle.law_sound.proofs.edits_are_sound.Goals as goal

pub returns : goal.returns
returns g c = edits
