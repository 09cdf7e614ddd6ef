use Rattle.std.proofs.Common.{List, subst}
use Rattle.pl_journal.specs.Phases.{AreSteps}
use Rattle.pl_journal.specs.declared.row.Row.{Row}
use Rattle.pl_journal.proofs.GrammarLaws.{bad_passed, spelled_ok}
use Rattle.pl_journal.proofs.recovering.steps_of.Goals as goal

pub returns-in_err-rows-clause-bad : goal.returns-in_err-rows-clause-bad
returns-in_err-rows-clause-bad c = bad_passed c.args.bytes.now c.from_residual.result c.in_err-rows.field-0.0 c.from_residual.ensures.1 c.in_err-rows.ensures.exact

pub returns-clause-ok : goal.returns-clause-ok
returns-clause-ok c = record {
  rows = c.in_ok-rows.rows;
  spelled = spelled_ok c.args.bytes.now c.in_ok-rows.rows c.in_ok-rows.ensures.exact;
  steps_are = λ v are. subst (λ (rows : List Row). AreSteps v 0 rows c.in_ok-steps.steps) c.as_slice.ensures (c.in_ok-steps.ensures v are);
}
