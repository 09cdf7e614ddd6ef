use Rattle.law_loads.proofs.FastLaws.{paths_are_one}
use Rattle.law_loads.proofs.ImageLaws.{fast_images_are_one}
use Rattle.law_loads.proofs.WalkLaws.{walks_are_one}
use Rattle.law_loads.proofs.paths.paths_are_one.Goals as goal

pub returns-clause-walks : goal.returns-clause-walks
returns-clause-walks g c = walks_are_one

pub returns-clause-fast : goal.returns-clause-fast
returns-clause-fast g c = paths_are_one

pub returns-clause-image : goal.returns-clause-image
returns-clause-image g c = fast_images_are_one
