use Rattle.pl_folder.proofs.ChosenLemmas.{chosen_image}
use Rattle.pl_folder.proofs.laws.chosen_is_an_image.Goals as goal

pub returns : goal.returns
returns c = chosen_image
