use Rattle.std.proofs.Common.{◌≡◌, ◌++◌, drop, length}
use Rattle.std.specs.List.{flat_map, range_with_len}
use Rattle.pl_build.specs.Versions.{verneed_at}
use Rattle.pl_build.proofs.versions.push_verneeds.Given as goal

abbrev pub invariant-loop-index : goal.invariant-loop-index
invariant-loop-index l =
    l.out.items ++ flat_map (verneed_at l.plan) (drop l.index (range_with_len 0 l.count)) ≡ l.initial.out.items ++ flat_map (verneed_at l.plan) (range_with_len 0 (length l.plan.files))
