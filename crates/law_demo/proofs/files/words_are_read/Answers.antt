use Rattle.law_demo.proofs.NumberLaws.{numbers_read}
use Rattle.law_demo.proofs.SplitLaws.{pieces_split}
use Rattle.law_demo.proofs.files.words_are_read.Goals as goal

pub returns-clause-pieces : goal.returns-clause-pieces
returns-clause-pieces c = pieces_split

pub returns-clause-numbers : goal.returns-clause-numbers
returns-clause-numbers c = numbers_read
