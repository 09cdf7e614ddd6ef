use Rattle.pl_rewrite.specs.Outcomes.{AreHeldBefore}
use Rattle.pl_rewrite.proofs.outcomes.held_by_programs.Given as goal

abbrev pub invariant-loop-row : goal.invariant-loop-row
invariant-loop-row l = AreHeldBefore l.numbered l.stale l.row l.held.items
