use Rattle.pl_safe.proofs.LoadLemmas.{weaves_ordinary}
use Rattle.pl_safe.proofs.law.sound_weaves_are_ordinary.Goals as goal

pub returns : goal.returns
returns c = weaves_ordinary
