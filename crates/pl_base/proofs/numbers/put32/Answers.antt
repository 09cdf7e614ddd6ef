use Rattle.pl_base.specs.Bytes.{bytes32}
use Rattle.pl_base.proofs.PutLemmas.{put_through}
use Rattle.pl_base.proofs.numbers.put32.Goals as goal

pub returns : goal.returns
unfolding bytes32
returns c = put_through c.args.at (bytes32 c.args.number) c.args.bytes.now c.write_u32.new.buf c.requires c.write_u32.ensures
