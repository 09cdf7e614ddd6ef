use Rattle.pl_safe.proofs.LoadLemmas.{loads_ordinary}
use Rattle.pl_safe.proofs.law.sound_loads_are_ordinary.Goals as goal

pub returns : goal.returns
returns c = loads_ordinary
