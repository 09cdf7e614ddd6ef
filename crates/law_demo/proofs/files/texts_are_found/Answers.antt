use Rattle.law_demo.proofs.TextLaws.{texts_found}
use Rattle.law_demo.proofs.files.texts_are_found.Goals as goal

pub returns : goal.returns
returns c = texts_found
