use Rattle.pl_build.proofs.TextLaws.{noted_none}
use Rattle.pl_build.proofs.text_index.TextIndex.note.Goals as goal

pub returns-in-None : goal.returns-in-None
returns-in-None c = rw c.in-None.is (noted_none c.args.self.now c.args.place)
