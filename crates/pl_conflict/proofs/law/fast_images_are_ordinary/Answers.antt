use Rattle.pl_conflict.proofs.FolderLaws.{files_stand, fast_images}
use Rattle.pl_conflict.proofs.law.fast_images_are_ordinary.Goals as goal

pub returns-clause-stand : goal.returns-clause-stand
returns-clause-stand g c = files_stand

pub returns-clause-ordinary : goal.returns-clause-ordinary
returns-clause-ordinary g c = fast_images
