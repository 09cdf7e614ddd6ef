use Rattle.law_folder.proofs.ReplaceLemmas.{fixing_bare, loosening_bare, replacements_safe}
use Rattle.law_folder.proofs.WholeLemmas.{removals_safe, runs_safe}
use Rattle.law_folder.proofs.sound.changes_are_safe.Goals as goal

pub returns-clause-runs : goal.returns-clause-runs
returns-clause-runs c = runs_safe

pub returns-clause-removals : goal.returns-clause-removals
returns-clause-removals c = removals_safe

pub returns-clause-replacements : goal.returns-clause-replacements
returns-clause-replacements c = replacements_safe

pub returns-clause-fixing : goal.returns-clause-fixing
returns-clause-fixing c = fixing_bare

pub returns-clause-loosening : goal.returns-clause-loosening
returns-clause-loosening c = loosening_bare
