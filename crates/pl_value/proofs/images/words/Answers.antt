use Rattle.pl_value.proofs.LinkedLaws.{words_more}
use Rattle.pl_value.proofs.images.words.Goals as goal

pub loop-meaning-preserved : goal.loop-meaning-preserved
loop-meaning-preserved c =
    words_more c.args.meanings.now c.loop-meaning.meaning-index _ c.loop-meaning.patches c.push_some.new.self _ c.loop-meaning-test.true c.word_patch.ensures c.in_ok-push_some.ensures.ok c.loop-meaning.invariant
