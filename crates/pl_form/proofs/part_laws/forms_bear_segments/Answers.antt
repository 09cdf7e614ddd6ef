use Rattle.pl_form.proofs.TableLaws.{libraries_are_moved, programs_are_extended}
use Rattle.pl_form.proofs.part_laws.forms_bear_segments.Goals as goal

pub returns-clause-libraries : goal.returns-clause-libraries
returns-clause-libraries c = libraries_are_moved

pub returns-clause-programs : goal.returns-clause-programs
returns-clause-programs c = programs_are_extended
