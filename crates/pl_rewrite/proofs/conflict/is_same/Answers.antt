use Rattle.std.proofs.Common.{arith, sym}
use Rattle.pl_conflict.proofs.HeldWordLaws.{bytes_test}
use Rattle.pl_rewrite.proofs.conflict.is_same.Goals as goal

pub returns : goal.returns
returns c = sym (bytes_test c.args.held c.args.word (omega arith) (omega arith))
