use Rattle.pl_scope.proofs.VersionIndexLaws.{unnamed}
use Rattle.pl_scope.proofs.version_index.VersionIndex.new.Goals as goal

pub returns : goal.returns
returns c = unnamed c.new.result c.new.ensures.empty
