use Rattle.pl_scope.proofs.definers.definers_of.Goals as goal

pub returns : goal.returns
returns c = record { by_index = c.in_ok-list_of.ensures; shown = c.in_ok-list_of-2.ensures; by_version = c.in_ok-list_of-3.ensures }
