use Rattle.law_demo.proofs.DrawnLaws.{libraries_built, programs_built}
use Rattle.law_demo.proofs.recipes.set_is_built.Goals as goal

pub returns-clause-libraries : goal.returns-clause-libraries
returns-clause-libraries c = libraries_built

pub returns-clause-programs : goal.returns-clause-programs
returns-clause-programs c = programs_built
