use Rattle.std.proofs.lemmas.List.{get_or_default}
use Rattle.pl_build.specs.LayoutPlan.{data_word}
use Rattle.pl_build.proofs.ListLaws.{map_more, map_done}
use Rattle.pl_build.proofs.packed.push_packed_words.Goals as goal

pub loop-word-preserved : goal.loop-word-preserved
loop-word-preserved c = map_more (data_word c.args.recipe.now.settings) _ _ _ _ _ _ c.loop-word-test.true (get_or_default c.as_slice-packed.result.now c.loop-word.word-index _ _ c.loop-word-test.true) (rw c.data_word.ensures at c.in_ok-push.ensures.items) c.loop-word.invariant

pub returns : goal.returns
returns c = map_done (data_word c.args.recipe.now.settings) _ _ _ _ c.loop-word-test.false c.loop-word.invariant
