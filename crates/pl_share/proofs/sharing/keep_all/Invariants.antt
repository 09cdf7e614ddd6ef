use Rattle.std.proofs.Common.{◌≡◌, [], length, drop}
use Rattle.pl_share.specs.Shared.{all_kept, AreGiven}
use Rattle.pl_share.proofs.sharing.keep_all.Given as goal

abbrev pub invariant-loop-position : goal.invariant-loop-position
invariant-loop-position l = record {
  so_far : all_kept l.asked.rows.now l.asked.walks.now l.asked.region l.given l.position (drop l.position l.wants) ≡ all_kept l.asked.rows.now l.asked.walks.now l.asked.region [] 0 l.wants;
  given : AreGiven l.given (length l.wants);
}
