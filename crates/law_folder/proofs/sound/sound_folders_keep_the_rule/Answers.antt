use Rattle.law_folder.proofs.SoundLemmas.{empty_sound, recovered_keep, rule_enough, sound_keep}
use Rattle.law_folder.proofs.sound.sound_folders_keep_the_rule.Goals as goal

pub returns-clause-stands : goal.returns-clause-stands
returns-clause-stands c = sound_keep

pub returns-clause-recovered : goal.returns-clause-recovered
returns-clause-recovered c = recovered_keep

pub returns-clause-enough : goal.returns-clause-enough
returns-clause-enough c = rule_enough

pub returns-clause-empty : goal.returns-clause-empty
returns-clause-empty c = empty_sound
