use Rattle.pl_rewrite.proofs.SoundLaws.{originals_stay}
use Rattle.pl_rewrite.proofs.laws.originals_stay.Goals as goal

pub returns : goal.returns
returns c = originals_stay
