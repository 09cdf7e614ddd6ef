use Rattle.law_sound.proofs.Theorems.{no_files}
use Rattle.law_sound.proofs.no_files_are_sound.Goals as goal

pub returns : goal.returns
returns g c = no_files
