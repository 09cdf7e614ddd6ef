use Rattle.std.proofs.Common.{◌≡◌, ◌++◌, take}
use Rattle.std.specs.List.{flat_map}
use Rattle.pl_cache.specs.Spelling.{row_bytes}
use Rattle.pl_cache.proofs.writing.push_rows.Given as goal

abbrev pub invariant-loop-slot : goal.invariant-loop-slot
invariant-loop-slot l = l.out.items ≡ l.fn.out.items ++ flat_map row_bytes (take l.slot-index l.slots)
