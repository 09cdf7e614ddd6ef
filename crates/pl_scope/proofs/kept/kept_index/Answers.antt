use Rattle.pl_scope.proofs.kept.kept_index.Goals as goal

pub returns-in_ok-index_of-in-None : goal.returns-in_ok-index_of-in-None
returns-in_ok-index_of-in-None c = c.in_ok-index_of-in-None.ensures

pub returns-in-Some : goal.returns-in-Some
returns-in-Some c = rw c.in-Some.is at c.in_ok-short_index_of.ensures
