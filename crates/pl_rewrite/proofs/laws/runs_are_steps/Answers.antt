use Rattle.pl_rewrite.proofs.HistoryLaws.{runs_are_steps, undoing_is_editing}
use Rattle.pl_rewrite.proofs.laws.runs_are_steps.Goals as goal

pub returns-clause-runs : goal.returns-clause-runs
returns-clause-runs c = runs_are_steps

pub returns-clause-undoing : goal.returns-clause-undoing
returns-clause-undoing c = undoing_is_editing
