use Rattle.std.proofs.Common.{◌≡◌, ℕ, ◌-◌, ◌<◌, ◌≤◌, false, take}
use Rattle.std.specs.List.{list_any}
use Rattle.pl_build.specs.PackedIndex.{packs_at}
use Rattle.pl_build.proofs.checks.shares_before.Given as goal

abbrev pub invariant-loop-other : goal.invariant-loop-other
invariant-loop-other l = (k : ℕ) → l.offset - 7 ≤ k → k < l.other → list_any (packs_at k) (take l.index l.lines.lines.now) ≡ false
