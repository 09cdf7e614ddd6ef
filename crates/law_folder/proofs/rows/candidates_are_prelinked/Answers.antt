use Rattle.law_folder.proofs.CandidateLemmas.{candidates_marked, candidates_prelinked}
use Rattle.law_folder.proofs.ReportLemmas.{reports_tell}
use Rattle.law_folder.proofs.rows.candidates_are_prelinked.Goals as goal

pub returns-clause-prelinked : goal.returns-clause-prelinked
returns-clause-prelinked c = candidates_prelinked

pub returns-clause-marked : goal.returns-clause-marked
returns-clause-marked c = candidates_marked

pub returns-clause-reported : goal.returns-clause-reported
returns-clause-reported c = reports_tell
