use Rattle.std.proofs.Common.{◌≡◌, drop}
use Rattle.pl_base.specs.Each.{run}
use Rattle.pl_cone.specs.Candidates.{all_formed}
use Rattle.pl_cone.specs.Table.{faults_of, names_by}
use Rattle.pl_cone.proofs.FormedLaws.{by_row}
use Rattle.pl_cone.proofs.linking.all_formed.Given as goal

abbrev pub invariant-loop-row : goal.invariant-loop-row
invariant-loop-row l = run (by_row l.files) tt (drop l.row-index l.walk) ≡ all_formed (faults_of l.files) (names_by l.files l.walk)
