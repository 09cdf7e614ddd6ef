use Rattle.std.proofs.Common.{take}
use Rattle.pl_object.proofs.KeyLaws.{AreSeen}
use Rattle.pl_object.proofs.repeats.has_repeat.Given as goal

abbrev pub invariant-loop-key : goal.invariant-loop-key
invariant-loop-key l = AreSeen l.seen (take l.key-index l.keys)
