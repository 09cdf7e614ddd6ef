use Rattle.std.proofs.Common.{◌≡◌, ◌++◌, drop}
use Rattle.pl_object.specs.Keys.{joined}
use Rattle.pl_object.proofs.repeats.joined.Given as goal

abbrev pub invariant-loop-byte : goal.invariant-loop-byte
invariant-loop-byte l = l.key.items ++ joined (drop l.byte-index l.version) l.name ≡ joined l.version l.name
