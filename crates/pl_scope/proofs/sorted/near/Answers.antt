use Rattle.std.proofs.Common.{arith}
use Rattle.pl_scope.proofs.SortedLaws.{first_read}
use Rattle.pl_scope.proofs.sorted.near.Goals as goal

pub loop-place-init : goal.loop-place-init
loop-place-init c = c.requires.behind

pub returns-then-own-key : goal.returns-then-own-key
returns-then-own-key c =
    first_read c.args.entries.now c.args.key c.loop-place.place c.from-own.result _ c.requires.rising (omega arith) c.from-own.ensures (omega (arith, c.if-own-key.true)) c.loop-place.invariant
