use Rattle.law_loads.proofs.CopyLaws.{copies_keep}
use Rattle.law_loads.proofs.weaves.copies_keep.Goals as goal

pub returns : goal.returns
returns c = copies_keep
