use Rattle.pl_form.proofs.FinalTheorem.{forms_undone, no_form_of_two}
use Rattle.pl_form.proofs.part_laws.forms_are_undone.Goals as goal

pub returns-clause-undone : goal.returns-clause-undone
returns-clause-undone c = forms_undone

pub returns-clause-one : goal.returns-clause-one
returns-clause-one c = no_form_of_two
