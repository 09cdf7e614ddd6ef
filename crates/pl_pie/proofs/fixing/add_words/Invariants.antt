use Rattle.std.proofs.Common.{◌≡◌, take}
use Rattle.pl_pie.specs.Fix as spec
use Rattle.pl_pie.proofs.fixing.add_words.Given as goal

abbrev pub invariant-loop-at : goal.invariant-loop-at
invariant-loop-at l = l.bytes ≡ spec.added l.more (take l.at-index l.words) l.initial.bytes
