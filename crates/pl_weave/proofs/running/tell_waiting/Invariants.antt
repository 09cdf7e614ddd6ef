use Rattle.std.proofs.Common.{◌≡◌, ◌++◌, map, take}
use Rattle.pl_weave.specs.declared.progress.Progress.TheVariants.{Waits}
use Rattle.pl_weave.proofs.running.tell_waiting.Given as goal

abbrev pub invariant-loop-run : goal.invariant-loop-run
invariant-loop-run l = l.told ≡ l.fn.told ++ map (λ run. Waits) (take l._run-index l.waiting)
