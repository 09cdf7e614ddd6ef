use Rattle.pl_scope.proofs.sorted.end_from.Goals as goal

pub returns-in-None : goal.returns-in-None
returns-in-None c = record { bound = c.first_at.ensures.bound; point = c.first_at.ensures.point }
