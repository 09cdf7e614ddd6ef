use Rattle.law_demo.proofs.PlacedLaws.{tables_taken}
use Rattle.law_demo.proofs.tables.tables_are_taken.Goals as goal

pub returns : goal.returns
returns c = tables_taken
