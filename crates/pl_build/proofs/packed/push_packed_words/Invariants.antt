use Rattle.std.proofs.Common.{◌≡◌, ◌++◌, drop, map}
use Rattle.pl_build.specs.LayoutPlan.{data_word}
use Rattle.pl_build.proofs.packed.push_packed_words.Given as goal

abbrev pub invariant-loop-word : goal.invariant-loop-word
invariant-loop-word l = l.words.items ++ map (data_word l.recipe.settings) (drop l.word-index l.packed) ≡ l.initial.words.items ++ map (data_word l.recipe.settings) l.recipe.packed
