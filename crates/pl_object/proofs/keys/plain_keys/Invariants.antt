use Rattle.std.proofs.Common.{◌≡◌, take}
use Rattle.pl_object.specs.Keys.{plain_key, keys}
use Rattle.pl_object.proofs.keys.plain_keys.Given as goal

abbrev pub invariant-loop-symbol : goal.invariant-loop-symbol
invariant-loop-symbol l = l.keys ≡ keys (plain_key l.program) (take l.symbol-index l.symbols)
