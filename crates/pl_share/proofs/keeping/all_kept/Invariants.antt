use Rattle.std.proofs.Common.{◌≡◌, [], take}
use Rattle.std.specs.Prelude.{fold}
use Rattle.pl_slots.specs.Plan.{kept_row}
use Rattle.pl_share.specs.Disjoint.{with_disjoint_row}
use Rattle.pl_share.proofs.keeping.all_kept.Given as goal

abbrev pub invariant-loop-want : goal.invariant-loop-want
invariant-loop-want l = l.kept ≡ fold (λ kept want. with_disjoint_row kept (kept_row l.rows l.region want)) [] (take l.want-index l.wants)
