use Rattle.pl_base.specs.Bytes.{bytes64}
use Rattle.pl_base.proofs.PutLemmas.{put_through}
use Rattle.pl_base.proofs.numbers.put64.Goals as goal

pub returns : goal.returns
unfolding bytes64
returns c = put_through c.args.at (bytes64 c.args.number) c.args.bytes.now c.write_u64.new.buf c.requires c.write_u64.ensures
