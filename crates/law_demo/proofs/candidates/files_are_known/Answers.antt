use Rattle.law_demo.proofs.CandidateLaws.{files_known}
use Rattle.law_demo.proofs.candidates.files_are_known.Goals as goal

pub returns : goal.returns
returns c = files_known
