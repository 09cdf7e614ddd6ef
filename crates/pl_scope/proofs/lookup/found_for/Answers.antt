use Rattle.pl_scope.specs.Scope.{objects}
use Rattle.pl_scope.proofs.ScopeIndexLaws.{way_at}
use Rattle.pl_scope.proofs.lookup.found_for.Goals as goal

pub version_wanted-version-requires : goal.version_wanted-version-requires
version_wanted-version-requires c = way_at (objects c.args.scope.now) c.args.way c.args.reference.member c.args.object.now c.requires.way c.requires.object
