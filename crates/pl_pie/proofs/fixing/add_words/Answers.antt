use Rattle.std.proofs.Common.{sym}
use Rattle.pl_pie.proofs.WordLaws.{added-none, added_more, word_in}
use Rattle.pl_pie.proofs.fixing.add_words.Goals as goal

pub loop-at-init : goal.loop-at-init
loop-at-init c = sym (added-none c.args.more c.args.bytes.now)

pub add_word-requires : goal.add_word-requires
add_word-requires c = rw c.loop-at.auto.bytes (word_in _ c.args.words.now c.loop-at.at-index _ c.requires c.loop-at-test.true)

pub loop-at-preserved : goal.loop-at-preserved
loop-at-preserved c = added_more c.args.more c.args.words.now c.loop-at.at-index _ c.args.bytes.now c.loop-at.bytes _ c.loop-at-test.true c.loop-at.invariant c.add_word.ensures
