use Rattle.std.proofs.Common.{◌≡◌, ◌-◌, take, length}
use Rattle.pl_object.specs.Names.{with_versions}
use Rattle.pl_object.proofs.names.set_versions.Given as goal

abbrev pub invariant-loop-index : goal.invariant-loop-index
invariant-loop-index l = l.symbols ≡ with_versions l.initial.symbols (take l.index l.words)

abbrev pub decreases-loop-index : goal.decreases-loop-index
decreases-loop-index l = length l.words - l.index
