use Rattle.std.proofs.Common.{◌≡◌, ◌++◌, take}
use Rattle.std.specs.List.{flat_map}
use Rattle.pl_texts.specs.Refusals.{escaped}
use Rattle.pl_texts.proofs.symbol_text.push_name.Given as goal

abbrev pub invariant-loop-byte : goal.invariant-loop-byte
invariant-loop-byte l = l.out.items ≡ l.fn.out.items ++ flat_map escaped (take l.byte-index l.name)
