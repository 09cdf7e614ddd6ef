use Rattle.std.proofs.Common.{◌≡◌, take, map}
use Rattle.pl_scope.specs.Scope.{walked}
use Rattle.pl_loader.specs.Walk.{member}
use Rattle.pl_loader.proofs.linking.scope.Given as goal

abbrev pub invariant-loop-file : goal.invariant-loop-file
invariant-loop-file l = walked l.members.items ≡ map member (take l.file-index l.files)
