use Rattle.law_demo.proofs.SmallLaws.{small_taken}
use Rattle.law_demo.proofs.folder.small_folders_are_taken.Goals as goal

pub returns : goal.returns
returns c = small_taken
