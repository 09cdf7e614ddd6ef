use Rattle.law_demo.proofs.HeadLaws.{heads_are_read}
use Rattle.law_demo.proofs.HeadedLaws.{files_headed}
use Rattle.law_demo.proofs.files.heads_are_read.Goals as goal

pub returns-clause-read : goal.returns-clause-read
returns-clause-read c = heads_are_read

pub returns-clause-taken : goal.returns-clause-taken
returns-clause-taken c = files_headed
