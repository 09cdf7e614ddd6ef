use Rattle.law_folder.proofs.CommandLemmas.{commands_end, commands_leave, commands_read, every_sound}
use Rattle.law_folder.proofs.sound.commands_stay_sound.Goals as goal

pub returns-clause-images : goal.returns-clause-images
returns-clause-images g c = commands_leave

pub returns-clause-every : goal.returns-clause-every
returns-clause-every g c = every_sound

pub returns-clause-end : goal.returns-clause-end
returns-clause-end g c = commands_end

pub returns-clause-files : goal.returns-clause-files
returns-clause-files g c = commands_read
