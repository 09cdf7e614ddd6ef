use Rattle.pl_cone.proofs.OneWordLaws.{flags_are_laws}
use Rattle.pl_cone.proofs.laws.flags_give_one_word.Goals as goal

pub returns : goal.returns
returns c = flags_are_laws
