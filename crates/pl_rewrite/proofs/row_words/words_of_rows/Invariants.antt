use Rattle.std.proofs.Common.{◌≡◌, length}
use Rattle.pl_rewrite.specs.RowWords.{RowWordsTo}
use Rattle.pl_rewrite.proofs.row_words.words_of_rows.Given as goal

abbrev pub invariant-loop-link : goal.invariant-loop-link
invariant-loop-link l = (length l.all.items ≡ length l.yielded) × RowWordsTo l.numbered l.needed l.all.items
