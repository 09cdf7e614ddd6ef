use Rattle.pl_form.proofs.AlikeTheorem.{libraries_load_alike, programs_load_alike}
use Rattle.pl_form.proofs.part_laws.forms_load_alike.Goals as goal

pub returns-clause-libraries : goal.returns-clause-libraries
returns-clause-libraries c = libraries_load_alike

pub returns-clause-programs : goal.returns-clause-programs
returns-clause-programs c = programs_load_alike
