use Rattle.pl_image.specs.Image.{patched}
use Rattle.pl_value.proofs.LinkedLaws.{copies_more}
use Rattle.pl_value.proofs.images.copies.Goals as goal

pub loop-meaning-preserved : goal.loop-meaning-preserved
loop-meaning-preserved c =
    copies_more (patched c.args.worded.now) c.args.meanings.now c.loop-meaning.meaning-index _ c.loop-meaning.patches c.push_some.new.self _ c.loop-meaning-test.true c.in_ok-copy_of.ensures c.in_ok-push_some.ensures.ok c.loop-meaning.invariant
