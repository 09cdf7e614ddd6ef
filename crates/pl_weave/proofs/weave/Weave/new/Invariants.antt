use Rattle.std.proofs.Common.{◌≡◌, map, take}
use Rattle.pl_weave.specs.Opening.{opened}
use Rattle.pl_weave.proofs.weave.Weave.new.Given as goal

abbrev pub invariant-loop-name : goal.invariant-loop-name
invariant-loop-name g l = l.loaders.items ≡ map (opened l.placer) (take l.name-index l.names)
