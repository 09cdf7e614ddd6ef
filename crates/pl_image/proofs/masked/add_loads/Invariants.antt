use Rattle.std.proofs.Common.{◌≡◌, ℕ, take}
use Rattle.std.specs.Prelude.{◌||◌}
use Rattle.std.specs.List.{list_any}
use Rattle.pl_elf.specs.Ranges.{has}
use Rattle.pl_image.specs.Loads.{loads_table}
use Rattle.pl_image.proofs.masked.add_loads.Given as goal

abbrev pub invariant-loop-load : goal.invariant-loop-load
invariant-loop-load l = (a : ℕ) → list_any (has a) l.ranges.items ≡ (list_any (has a) l.fn.ranges.items || list_any (λ load. list_any (loads_table a load) l.tables) (take l.load-index l.loads))
