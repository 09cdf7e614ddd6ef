use Rattle.std.proofs.Common.{◌≡◌, length}
use Rattle.pl_scope.specs.Shared.{AreNoted}
use Rattle.pl_scope.proofs.shared.note_all.Given as goal

abbrev pub invariant-loop-place : goal.invariant-loop-place
invariant-loop-place l = record {
  long : length l.flags ≡ length l.initial.flags;
  noted : AreNoted l.entries l.place l.flags;
}
