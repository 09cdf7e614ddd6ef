use Rattle.pl_safe.proofs.ScratchLemmas.{files_scratch, images_scratch}
use Rattle.pl_safe.proofs.law.runs_prelink_from_scratch.Goals as goal

pub returns-clause-images : goal.returns-clause-images
returns-clause-images c = images_scratch

pub returns-clause-files : goal.returns-clause-files
returns-clause-files c = files_scratch
