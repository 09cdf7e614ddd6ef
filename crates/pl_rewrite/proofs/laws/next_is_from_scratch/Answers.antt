use Rattle.pl_rewrite.proofs.SoundLaws.{next_is_from_scratch}
use Rattle.pl_rewrite.proofs.laws.next_is_from_scratch.Goals as goal

pub returns : goal.returns
returns c = next_is_from_scratch
