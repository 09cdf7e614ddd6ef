use Rattle.law_demo.proofs.FolderLaws.{demo_ready}
use Rattle.law_demo.proofs.folder.demos_are_ready.Goals as goal

pub returns : goal.returns
returns c = demo_ready
