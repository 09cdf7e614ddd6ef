use Rattle.pl_safe.proofs.VerifyLemmas.{verified_sound}
use Rattle.pl_safe.proofs.law.verified_are_sound.Goals as goal

pub returns : goal.returns
returns c = verified_sound
