use Rattle.std.proofs.Common.{arith}
use Rattle.pl_conflict.proofs.HeldWordLaws.{word_told}
use Rattle.pl_conflict.proofs.file_words.word_in.Goals as goal

pub returns : goal.returns
returns c = word_told c.args.bytes.now c.word64.result (λ i. omega (arith, c.type_inv.bytes i)) c.requires c.word64.ensures
