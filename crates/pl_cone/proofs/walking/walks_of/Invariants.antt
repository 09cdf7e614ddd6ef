use Rattle.pl_cone.specs.Needs.{MayBeginNext}
use Rattle.pl_cone.proofs.ColumnLaws.{AreFirst}
use Rattle.pl_cone.proofs.walking.walks_of.Given as goal

abbrev pub invariant-loop-row : goal.invariant-loop-row
invariant-loop-row l = record {
  ready : MayBeginNext l.needs l.row l.walking;
  walks : AreFirst l.files l.row l.walks;
}
