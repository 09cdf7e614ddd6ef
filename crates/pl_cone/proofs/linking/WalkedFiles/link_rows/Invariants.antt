use Rattle.pl_cone.specs.Linking.{HaveLinked}
use Rattle.pl_cone.proofs.linking.WalkedFiles.link_rows.Given as goal

abbrev pub invariant-loop-row : goal.invariant-loop-row
invariant-loop-row l = HaveLinked l.libraries l.self l.row l.linked
