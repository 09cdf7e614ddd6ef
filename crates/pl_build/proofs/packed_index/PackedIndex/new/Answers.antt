use Rattle.pl_build.proofs.PackedIndexLaws.{no_places}
use Rattle.pl_build.proofs.packed_index.PackedIndex.new.Goals as goal

pub returns : goal.returns
returns c = no_places c.new.result c.new.ensures.empty
