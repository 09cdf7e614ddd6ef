use Rattle.std.proofs.Common.{◌≡◌, drop}
use Rattle.std.specs.List.{fold}
use Rattle.pl_build.specs.Data.{word_put}
use Rattle.pl_build.proofs.data.put_words.Given as goal

abbrev pub invariant-loop-word : goal.invariant-loop-word
invariant-loop-word l = fold word_put l.bytes (drop l.word-index l.words) ≡ fold word_put l.initial.bytes l.words
