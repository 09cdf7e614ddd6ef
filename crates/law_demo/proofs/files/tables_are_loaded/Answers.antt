use Rattle.law_demo.proofs.LoadedLaws.{tables_loaded}
use Rattle.law_demo.proofs.files.tables_are_loaded.Goals as goal

pub returns : goal.returns
returns c = tables_loaded
