use Rattle.pl_build.proofs.TextLaws.{nothing_noted}
use Rattle.pl_build.proofs.text_index.TextIndex.new.Goals as goal

pub returns : goal.returns
returns c = nothing_noted c.new.result c.new.ensures.empty
