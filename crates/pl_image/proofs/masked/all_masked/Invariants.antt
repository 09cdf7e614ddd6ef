use Rattle.std.proofs.Common.{◌≡◌, ℕ, take}
use Rattle.std.specs.List.{list_any}
use Rattle.pl_elf.specs.Ranges.{has}
use Rattle.pl_image.specs.Image.{any_masked}
use Rattle.pl_image.proofs.masked.all_masked.Given as goal

abbrev pub invariant-loop-object : goal.invariant-loop-object
invariant-loop-object l = (a : ℕ) → list_any (has a) l.ranges.items ≡ any_masked (take l.object-index l.objects) a
