use Rattle.pl_conflict.proofs.FormWordLaws.{forms_hold}
use Rattle.pl_conflict.proofs.law.forms_hold_words.Goals as goal

pub returns : goal.returns
returns c = forms_hold
