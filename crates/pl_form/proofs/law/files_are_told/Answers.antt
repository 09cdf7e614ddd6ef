use Rattle.pl_form.proofs.FilesLaws.{bad_are_told, forms_are_read, forms_are_told, nothing_else_is_read, originals_are_bare, plain_are_told}
use Rattle.pl_form.proofs.law.files_are_told.Goals as goal

pub returns-clause-forms : goal.returns-clause-forms
returns-clause-forms c = forms_are_read

pub returns-clause-others : goal.returns-clause-others
returns-clause-others c = nothing_else_is_read

pub returns-clause-bare : goal.returns-clause-bare
returns-clause-bare c = originals_are_bare

pub returns-clause-marked : goal.returns-clause-marked
returns-clause-marked c = forms_are_told

pub returns-clause-bad : goal.returns-clause-bad
returns-clause-bad c = bad_are_told

pub returns-clause-plain : goal.returns-clause-plain
returns-clause-plain c = plain_are_told
