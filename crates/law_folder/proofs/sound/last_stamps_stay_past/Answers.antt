use Rattle.law_folder.proofs.StepLemmas.{empty_past, steps_past}
use Rattle.law_folder.proofs.sound.last_stamps_stay_past.Goals as goal

pub returns-clause-empty : goal.returns-clause-empty
returns-clause-empty g c = empty_past

pub returns-clause-steps : goal.returns-clause-steps
returns-clause-steps g c = steps_past
