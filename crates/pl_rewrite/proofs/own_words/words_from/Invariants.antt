use Rattle.std.proofs.Common.{◌≡◌, take}
use Rattle.pl_rewrite.specs.Words.{words_by}
use Rattle.pl_rewrite.proofs.own_words.words_from.Given as goal

abbrev pub invariant-loop-index : goal.invariant-loop-index
invariant-loop-index l = l.rows.items ≡ take l.index (words_by l.words l.given)
