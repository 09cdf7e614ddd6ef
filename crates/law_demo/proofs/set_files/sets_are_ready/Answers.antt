use Rattle.law_demo.proofs.SetFilesLaws.{set_libraries, set_programs}
use Rattle.law_demo.proofs.set_files.sets_are_ready.Goals as goal

pub returns-clause-libraries : goal.returns-clause-libraries
returns-clause-libraries c = set_libraries

pub returns-clause-programs : goal.returns-clause-programs
returns-clause-programs c = set_programs
