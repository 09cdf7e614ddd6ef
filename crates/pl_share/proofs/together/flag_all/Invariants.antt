use Rattle.std.proofs.Common.{◌≡◌, ◌<◌, ℕ, false, ◌||◌, length, take}
use Rattle.std.specs.Prelude.{slice_index_or}
use Rattle.pl_share.specs.Together.{walk_has}
use Rattle.pl_share.proofs.together.flag_all.Given as goal

abbrev pub invariant-loop-want : goal.invariant-loop-want
invariant-loop-want l = (j : ℕ) → j < length l.initial.flags → slice_index_or l.flags j false ≡ (slice_index_or l.initial.flags j false || walk_has (take l.want-index l.walk) j)
