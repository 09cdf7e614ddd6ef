use Rattle.std.proofs.Common.{◌≡◌, drop}
use Rattle.pl_pie.specs.Fix as spec
use Rattle.pl_pie.proofs.fixing.take_words.Given as goal

abbrev pub invariant-loop-index : goal.invariant-loop-index
invariant-loop-index l = l.bytes ≡ spec.taken l.less (drop l.index l.words) l.initial.bytes
