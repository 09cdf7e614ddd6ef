use Rattle.pl_value.proofs.FitLaws.{words_fit}
use Rattle.pl_value.proofs.ApartLaws.{places_are_apart}
use Rattle.pl_value.proofs.law.meanings_fit.Goals as goal

pub returns-clause-fit : goal.returns-clause-fit
returns-clause-fit c = words_fit

pub returns-clause-apart : goal.returns-clause-apart
returns-clause-apart c = places_are_apart
