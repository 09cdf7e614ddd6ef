use Rattle.pl_form.proofs.BytesLaws.{forms_are_bytes}
use Rattle.pl_form.proofs.CompleteLaws.{undone, no_two}
use Rattle.pl_form.proofs.law.forms_have_one_original.Goals as goal

pub returns-clause-undone : goal.returns-clause-undone
returns-clause-undone c = undone

pub returns-clause-one : goal.returns-clause-one
returns-clause-one c = no_two

pub returns-clause-bytes : goal.returns-clause-bytes
returns-clause-bytes c = forms_are_bytes
