use Rattle.std.proofs.Common.{take}
use Rattle.std.specs.List.{AllZip}
use Rattle.pl_rewrite.specs.Held.{IsHeldIn}
use Rattle.pl_rewrite.proofs.row_words.held_words.Given as goal

abbrev pub invariant-loop-index : goal.invariant-loop-index
invariant-loop-index l = AllZip (IsHeldIn l.original l.relocs l.words) (take l.index-index l.remaining) l.all
