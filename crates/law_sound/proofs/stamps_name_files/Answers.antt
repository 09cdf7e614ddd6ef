use Rattle.law_sound.proofs.Theorems.{one_file}
use Rattle.law_sound.proofs.stamps_name_files.Goals as goal

pub returns : goal.returns
returns g c = one_file
