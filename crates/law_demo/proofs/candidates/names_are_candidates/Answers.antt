use Rattle.law_demo.proofs.CandidateLaws.{libraries_ready, programs_ready}
use Rattle.law_demo.proofs.candidates.names_are_candidates.Goals as goal

pub returns-clause-libraries : goal.returns-clause-libraries
returns-clause-libraries c = libraries_ready

pub returns-clause-programs : goal.returns-clause-programs
returns-clause-programs c = programs_ready
