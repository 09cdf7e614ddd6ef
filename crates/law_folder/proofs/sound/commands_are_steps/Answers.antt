use Rattle.law_folder.proofs.StepLemmas.{removals_steps, replacements_steps, runs_steps}
use Rattle.law_folder.proofs.sound.commands_are_steps.Goals as goal

pub returns-clause-runs : goal.returns-clause-runs
returns-clause-runs c = runs_steps

pub returns-clause-removals : goal.returns-clause-removals
returns-clause-removals c = removals_steps

pub returns-clause-replacements : goal.returns-clause-replacements
returns-clause-replacements c = replacements_steps
