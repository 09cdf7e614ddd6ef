use Rattle.pl_rewrite.proofs.SoundLaws.{names_stay}
use Rattle.pl_rewrite.proofs.laws.names_stay.Goals as goal

pub returns : goal.returns
returns c = names_stay
