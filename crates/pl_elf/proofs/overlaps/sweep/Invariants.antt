use Rattle.std.proofs.Common.{◌≡◌, drop}
use Rattle.pl_elf.specs.Sweep.{sweep}
use Rattle.pl_elf.proofs.overlaps.sweep.Given as goal

abbrev pub invariant-loop-extent : goal.invariant-loop-extent
invariant-loop-extent l = sweep l.last (drop l.extent-index l.extents) ≡ sweep (record { at = 0; size = 0 }) l.extents
