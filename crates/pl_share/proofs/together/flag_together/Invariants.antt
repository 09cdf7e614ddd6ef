use Rattle.std.proofs.Common.{◌≡◌, ◌<◌, ℕ, false, ◌||◌, length, take}
use Rattle.std.specs.Prelude.{slice_index_or}
use Rattle.pl_share.specs.Together.{are_together}
use Rattle.pl_share.proofs.together.flag_together.Given as goal

abbrev pub invariant-loop-walk : goal.invariant-loop-walk
invariant-loop-walk l = record {
  long : length l.flags ≡ length l.initial.flags;
  each : (j : ℕ) → j < length l.initial.flags → slice_index_or l.flags j false ≡ (slice_index_or l.initial.flags j false || are_together (take l.walk-index l.walks) l.want j);
}
