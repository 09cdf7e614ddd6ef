use Rattle.std.proofs.Common.{◌≡◌, length}
use Rattle.pl_base.specs.Files.{Files}
use Rattle.pl_weave.specs.Running.{AreRuns, Idles}
use Rattle.pl_weave.specs.Runs.{begun}
use Rattle.pl_weave.proofs.running.Running.begin_next.Given as goal

abbrev pub invariant-loop-left : goal.invariant-loop-left
invariant-loop-left l = record {
  runs : AreRuns l.left;
  idles : (files : Files) → Idles files l.fn.self → Idles files l.self × (begun files l.self.finished l.left ≡ begun files l.fn.self.finished l.fn.self.waiting.now);
}

abbrev pub decreases-loop-left : goal.decreases-loop-left
decreases-loop-left l = length l.left
