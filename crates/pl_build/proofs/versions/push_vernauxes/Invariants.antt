use Rattle.std.proofs.Common.{◌≡◌, ◌++◌, drop, length}
use Rattle.std.specs.List.{flat_map, range_with_len}
use Rattle.pl_build.specs.Versions.{vernaux_at}
use Rattle.pl_build.proofs.versions.push_vernauxes.Given as goal

abbrev pub invariant-loop-index : goal.invariant-loop-index
invariant-loop-index l =
    l.out.items ++ flat_map (vernaux_at l.plan l.file) (drop l.index (range_with_len 0 l.count)) ≡ l.initial.out.items ++ flat_map (vernaux_at l.plan l.file) (range_with_len 0 (length l.plan.needs))
