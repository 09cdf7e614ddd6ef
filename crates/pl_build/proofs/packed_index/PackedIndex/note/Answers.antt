use Rattle.pl_build.proofs.PackedIndexLaws.{offset_none}
use Rattle.pl_build.proofs.packed_index.PackedIndex.note.Goals as goal

pub returns-in-None : goal.returns-in-None
returns-in-None c = rw c.in-None.is (offset_none c.args.self.now c.args.place)
