use Rattle.std.proofs.Common.{arith}
use Rattle.pl_image.proofs.PlainLemmas.{clear_past}
use Rattle.pl_image.proofs.image.Image.next_word.Goals as goal

pub returns-then-number-shown-clause-clear : goal.returns-then-number-shown-clause-clear
returns-then-number-shown-clause-clear c =
    clear_past c.args.self.now c.args.pieces.now c.args.from c.next_content-number.result c.min-shown.result c.next_content.result c.masked_end.result c.requires.own c.next_content-number.ensures.clear
    c.masked_end.ensures.masked (omega arith) c.next_content.ensures.clear
