use Rattle.std.proofs.Common.{◌≡◌, Some, take}
use Rattle.pl_object.specs.Keys.{version_key, keys}
use Rattle.pl_object.proofs.keys.placed_keys.Given as goal

abbrev pub invariant-loop-symbol : goal.invariant-loop-symbol
invariant-loop-symbol l = l.keys ≡ keys (version_key (Some l.versions) l.program) (take l.symbol-index l.symbols)
