use Rattle.std.proofs.Common.{◌≡◌, length, drop}
use Rattle.pl_share.specs.Shared.{all_placed, AreGiven}
use Rattle.pl_share.proofs.sharing.place_all.Given as goal

abbrev pub invariant-loop-position : goal.invariant-loop-position
invariant-loop-position l = record {
  so_far : all_placed l.asked.walks.now l.asked.region l.given l.position (drop l.position l.wants) ≡ all_placed l.asked.walks.now l.asked.region l.initial.given 0 l.wants;
  given : AreGiven l.given (length l.wants);
}
