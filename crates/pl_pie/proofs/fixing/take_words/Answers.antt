use Rattle.std.proofs.Common.{◌≤◌, ◌-◌, length, arith}
use Rattle.pl_pie.proofs.WordLaws.{taken_first, taken_more, word_in}
use Rattle.pl_pie.proofs.fixing.take_words.Goals as goal

pub loop-index-init : goal.loop-index-init
loop-index-init c = taken_first c.args.less c.args.words.now c.args.bytes.now

pub take_word-requires : goal.take_word-requires
take_word-requires c =
    let le : c.loop-index.index ≤ length c.args.words.now = c.loop-index.auto.index in
    rw c.loop-index.auto.bytes (word_in _ c.args.words.now (c.loop-index.index - 1) _ c.requires (omega arith))

pub loop-index-preserved : goal.loop-index-preserved
loop-index-preserved c = taken_more c.args.less c.args.words.now c.loop-index.index _ c.args.bytes.now c.loop-index.bytes _ c.loop-index-test.true c.loop-index.auto.index c.loop-index.invariant c.take_word.ensures
