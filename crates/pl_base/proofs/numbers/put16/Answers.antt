use Rattle.pl_base.specs.Bytes.{bytes16}
use Rattle.pl_base.proofs.PutLemmas.{put_through}
use Rattle.pl_base.proofs.numbers.put16.Goals as goal

pub returns : goal.returns
unfolding bytes16
returns c = put_through c.args.at (bytes16 c.args.number) c.args.bytes.now c.write_u16.new.buf c.requires c.write_u16.ensures
