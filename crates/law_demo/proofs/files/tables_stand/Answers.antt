use Rattle.law_demo.proofs.FileLaws.{files_hold}
use Rattle.law_demo.proofs.LaidLaws.{tables_laid}
use Rattle.law_demo.proofs.files.tables_stand.Goals as goal

pub returns-clause-stand : goal.returns-clause-stand
returns-clause-stand c = tables_laid

pub returns-clause-files : goal.returns-clause-files
returns-clause-files c = files_hold
