use Rattle.pl_form.proofs.AlikeLaws.{library_alike, program_alike}
use Rattle.pl_form.proofs.alike.forms_leave_the_rest.Goals as goal

pub returns : goal.returns
returns c = record { libraries = library_alike; programs = program_alike }
