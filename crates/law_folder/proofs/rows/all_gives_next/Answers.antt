use Rattle.law_folder.proofs.NextLemmas.{gives_next, gives_scratch}
use Rattle.law_folder.proofs.rows.all_gives_next.Goals as goal

pub returns-clause-next : goal.returns-clause-next
returns-clause-next c = gives_next

pub returns-clause-scratch : goal.returns-clause-scratch
returns-clause-scratch c = gives_scratch
