use Rattle.law_sound.proofs.Theorems.{rows}
use Rattle.law_sound.proofs.rows_are_sound.Goals as goal

pub returns : goal.returns
returns g c = rows
