use Rattle.law_demo.proofs.SetNameLaws.{files_named, recipes_named}
use Rattle.law_demo.proofs.recipes.set_is_named.Goals as goal

pub returns-clause-recipes : goal.returns-clause-recipes
returns-clause-recipes c = recipes_named

pub returns-clause-files : goal.returns-clause-files
returns-clause-files c = files_named
