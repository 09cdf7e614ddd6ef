use Rattle.pl_conflict.proofs.MadeLaws.{prelinked_forms}
use Rattle.pl_conflict.proofs.law.prelinked_are_forms.Goals as goal

pub returns : goal.returns
returns c = prelinked_forms
