use Rattle.std.proofs.Common.{◌≡◌, length}
use Rattle.pl_rewrite.proofs.MadeRowLaws.{ProgramsTo}
use Rattle.pl_rewrite.proofs.outcomes.program_outcomes.Given as goal

abbrev pub invariant-loop-row : goal.invariant-loop-row
invariant-loop-row l = (length l.all.items ≡ l.row) × ProgramsTo l.work.numbered.now l.stale l.all.items
