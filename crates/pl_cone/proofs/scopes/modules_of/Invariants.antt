use Rattle.std.proofs.Common.{◌≡◌, map, take}
use Rattle.pl_cone.proofs.scopes.modules_of.Given as goal

abbrev pub invariant-loop-member : goal.invariant-loop-member
invariant-loop-member l = l.blocks ≡ map (λ m. m.object.now.tls) (take l.member-index l.members)
