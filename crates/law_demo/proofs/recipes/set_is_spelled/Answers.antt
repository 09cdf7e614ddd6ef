use Rattle.law_demo.proofs.SetLaws.{libraries_spell, programs_spell}
use Rattle.law_demo.proofs.recipes.set_is_spelled.Goals as goal

pub returns-clause-libraries : goal.returns-clause-libraries
returns-clause-libraries c = libraries_spell

pub returns-clause-programs : goal.returns-clause-programs
returns-clause-programs c = programs_spell
