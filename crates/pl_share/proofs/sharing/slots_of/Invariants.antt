use Rattle.std.proofs.Common.{◌≡◌}
use Rattle.pl_share.specs.Shared.{slots_of}
use Rattle.pl_share.proofs.sharing.slots_of.Given as goal

abbrev pub invariant-loop-position : goal.invariant-loop-position
invariant-loop-position l = l.slots ≡ slots_of l.given l.position
