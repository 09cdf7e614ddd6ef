use Rattle.law_demo.proofs.SpelledLaws.{functions_read, needs_read, objects_read, refs_read}
use Rattle.law_demo.proofs.files.name_lines_are_read.Goals as goal

pub returns-clause-needs : goal.returns-clause-needs
returns-clause-needs c = needs_read

pub returns-clause-functions : goal.returns-clause-functions
returns-clause-functions c = functions_read

pub returns-clause-objects : goal.returns-clause-objects
returns-clause-objects c = objects_read

pub returns-clause-refs : goal.returns-clause-refs
returns-clause-refs c = refs_read
