use Rattle.std.proofs.Common.{◌≡◌, take}
use Rattle.std.specs.List.{fold}
use Rattle.pl_slots.specs.Holes.{region_holes}
use Rattle.pl_slots.specs.Plan.{without_kept, kept_row}
use Rattle.pl_slots.proofs.planning.kept_holes.Given as goal

abbrev pub invariant-loop-want : goal.invariant-loop-want
invariant-loop-want l = l.holes.items ≡ fold (λ holes want. without_kept (kept_row l.kept l.region want) holes) (region_holes l.region) (take l.want-index l.wants)
