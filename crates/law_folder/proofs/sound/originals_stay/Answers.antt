use Rattle.law_folder.proofs.OriginalLemmas.{images_originals}
use Rattle.law_folder.proofs.ReplaceLemmas.{replacements_originals}
use Rattle.law_folder.proofs.WholeLemmas.{removals_originals, runs_originals}
use Rattle.law_folder.proofs.sound.originals_stay.Goals as goal

pub returns-clause-runs : goal.returns-clause-runs
returns-clause-runs g c = runs_originals

pub returns-clause-removals : goal.returns-clause-removals
returns-clause-removals g c = removals_originals

pub returns-clause-images : goal.returns-clause-images
returns-clause-images g c = images_originals

pub returns-clause-replacements : goal.returns-clause-replacements
returns-clause-replacements g c = replacements_originals
