use Rattle.law_fixed.proofs.StayLaws.{windows_stay, outside_stays, moves_stay}
use Rattle.law_fixed.proofs.law.what_stays.Goals as goal

pub returns-clause-windows : goal.returns-clause-windows
returns-clause-windows c = windows_stay

pub returns-clause-outside : goal.returns-clause-outside
returns-clause-outside c = outside_stays

pub returns-clause-moves : goal.returns-clause-moves
returns-clause-moves c = moves_stay
