use Rattle.std.proofs.Common.{◌≡◌, take}
use Rattle.pl_share.specs.Shared.{flagged_holes}
use Rattle.pl_share.proofs.sharing.holes_beside.Given as goal

abbrev pub invariant-loop-g : goal.invariant-loop-g
invariant-loop-g l = l.holes.items ≡ flagged_holes l.flags l.fn.region (take l.g-index l.given)
