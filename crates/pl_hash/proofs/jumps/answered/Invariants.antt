use Rattle.std.proofs.Common.{◌-◌, ◌^◌}
use Rattle.pl_hash.proofs.JumpLaws.{AreOn}
use Rattle.pl_hash.proofs.jumps.answered.Given as goal

abbrev pub invariant-loop-round : goal.invariant-loop-round
invariant-loop-round l = AreOn l.table l.fn.first.items l.queries.items l.jumps.items (2 ^ l.round) (2 ^ 32 - 1)
