use Rattle.pl_folder.proofs.ImageLaws.{read_image, settled_image}
use Rattle.pl_folder.proofs.laws.read_is_an_image.Goals as goal

pub returns-clause-image : goal.returns-clause-image
returns-clause-image c = read_image

pub returns-clause-settled : goal.returns-clause-settled
returns-clause-settled c = settled_image
