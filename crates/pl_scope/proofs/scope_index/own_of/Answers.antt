use Rattle.pl_scope.proofs.scope_index.own_of.Goals as goal

pub returns : goal.returns
returns c = record { named = c.in_ok-versions.ensures; listed = c.in_ok-definers.ensures }
