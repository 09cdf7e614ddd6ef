use Rattle.std.proofs.Common.{◌≡◌, length}
use Rattle.pl_rewrite.proofs.FlagLaws.{FlagsTo}
use Rattle.pl_rewrite.proofs.row_words.flag_of.Given as goal

abbrev pub invariant-loop-index : goal.invariant-loop-index
invariant-loop-index l = (length l.flags.items ≡ l.index) × FlagsTo l.row l.flags.items
