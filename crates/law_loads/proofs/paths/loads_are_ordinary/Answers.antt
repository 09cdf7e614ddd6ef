use Rattle.law_loads.proofs.ImageLaws.{images_are_ordinary, starts_are_ordinary, loads_are_ordinary}
use Rattle.law_loads.proofs.PlaceLaws.{places_are_at}
use Rattle.law_loads.proofs.paths.loads_are_ordinary.Goals as goal

pub returns-clause-image : goal.returns-clause-image
returns-clause-image g c = images_are_ordinary

pub returns-clause-start : goal.returns-clause-start
returns-clause-start g c = starts_are_ordinary

pub returns-clause-placed : goal.returns-clause-placed
returns-clause-placed g c = places_are_at

pub returns-clause-load : goal.returns-clause-load
returns-clause-load g c = loads_are_ordinary
