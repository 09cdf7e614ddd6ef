use Rattle.law_folder.proofs.FitLemmas.{removals_fit, replacements_fit, runs_fit}
use Rattle.law_folder.proofs.rows.rows_fit.Goals as goal

pub returns-clause-runs : goal.returns-clause-runs
returns-clause-runs c = runs_fit

pub returns-clause-removals : goal.returns-clause-removals
returns-clause-removals c = removals_fit

pub returns-clause-replacements : goal.returns-clause-replacements
returns-clause-replacements c = replacements_fit
