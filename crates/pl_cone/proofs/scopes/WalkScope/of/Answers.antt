use Rattle.pl_cone.proofs.scopes.WalkScope.of.Goals as goal

pub returns : goal.returns
returns c = record { scope = c.in_ok-scope.ensures; positions = c.in_ok-positions.ensures }
