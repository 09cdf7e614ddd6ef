use Rattle.std.proofs.Common.{◌≡◌, length, map, take}
use Rattle.law_fixed.specs.Fixed.{fixed_symbol}
use Rattle.pl_pie.proofs.objects.symbols_at.Given as goal

abbrev pub invariant-loop-symbol : goal.invariant-loop-symbol
invariant-loop-symbol l = l.moved ≡ map (fixed_symbol l.address) (take (length l.yielded) l.fn.symbols)
