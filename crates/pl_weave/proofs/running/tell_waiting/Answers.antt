use Rattle.std.proofs.Common.{◌∙◌, ◌++◌, ◌∷◌, [], List, ap, append_assoc, sym}
use Rattle.pl_weave.specs.declared.progress.Progress.{Progress}
use Rattle.pl_weave.specs.declared.progress.Progress.TheVariants.{Waits}
use Rattle.pl_weave.proofs.RunningLemmas.{waits_push}
use Rattle.pl_weave.proofs.running.tell_waiting.Goals as goal

pub loop-run-preserved : goal.loop-run-preserved
loop-run-preserved c =
    c.in_ok-push.ensures.ok
    ∙ ap (λ (told : List Progress). told ++ Waits ∷ []) c.loop-run.invariant
    ∙ append_assoc c.args.told.now _ (Waits ∷ [])
    ∙ ap (λ (told : List Progress). c.args.told.now ++ told) (sym (waits_push c.args.waiting.now c.loop-run._run-index c.loop-run-test.true))
