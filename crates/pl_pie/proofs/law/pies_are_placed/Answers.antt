use Rattle.pl_pie.proofs.CallLaws.{pie_placed}
use Rattle.pl_pie.proofs.FitLaws.{fits_may}
use Rattle.pl_pie.proofs.law.pies_are_placed.Goals as goal

pub returns-clause-placed : goal.returns-clause-placed
returns-clause-placed c = pie_placed

pub returns-clause-region : goal.returns-clause-region
returns-clause-region c = fits_may
