use Rattle.std.proofs.Common.{◌≡◌, length}
use Rattle.pl_cone.proofs.linking.WalkedFiles.links_of.Given as goal

abbrev pub invariant-loop-row : goal.invariant-loop-row
invariant-loop-row l = length l.links.items ≡ l._row
