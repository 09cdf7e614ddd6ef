use Rattle.pl_scope.specs.Scope.{objects}
use Rattle.pl_scope.proofs.FoundLaws.{found_within}
use Rattle.pl_scope.proofs.lookup.find_among.Goals as goal

pub returns-clause-within : goal.returns-clause-within
returns-clause-within c = found_within (objects c.args.scope.now) c.args.reference c.find_by.result c.find_by.ensures
