use Rattle.std.proofs.Common.{◌∙◌, length, ap, sym}
use Rattle.pl_conflict.proofs.HeldWordLaws.{length_held}
use Rattle.pl_conflict.proofs.file_words.word_held.Goals as goal

pub word_in-requires : goal.word_in-requires
word_in-requires c = ap length (c.deref.ensures.value ∙ c.in_ok-bytes.ensures) ∙ length_held c.args.file.now 0 _

pub returns : goal.returns
returns c = sym (c.deref.ensures.value ∙ c.in_ok-bytes.ensures) ∙ c.word_in.ensures
