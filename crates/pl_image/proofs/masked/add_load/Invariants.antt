use Rattle.std.proofs.Common.{◌≡◌, ℕ, take}
use Rattle.std.specs.Prelude.{◌||◌}
use Rattle.std.specs.List.{list_any}
use Rattle.pl_elf.specs.Ranges.{has}
use Rattle.pl_image.specs.Loads.{loads_table}
use Rattle.pl_image.proofs.masked.add_load.Given as goal

abbrev pub invariant-loop-table : goal.invariant-loop-table
invariant-loop-table l = (a : ℕ) → list_any (has a) l.ranges.items ≡ (list_any (has a) l.fn.ranges.items || list_any (loads_table a l.load) (take l.table-index l.near))
