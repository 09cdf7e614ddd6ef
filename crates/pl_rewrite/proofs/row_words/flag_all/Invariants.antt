use Rattle.std.proofs.Common.{take}
use Rattle.pl_rewrite.specs.Flags.{FlagsAll}
use Rattle.pl_rewrite.proofs.row_words.flag_all.Given as goal

abbrev pub invariant-loop-row : goal.invariant-loop-row
invariant-loop-row l = FlagsAll (take l.row-index l.rows) l.fn.flags l.flags
