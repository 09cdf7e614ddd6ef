use Rattle.std.proofs.Common.{sym, subst}
use Rattle.std.proofs.lemmas.Result.{on_ok_weaker}
use Rattle.pl_folder.specs.Replay.{step_of}
use Rattle.pl_folder.specs.Replaying.{Stands}
use Rattle.pl_folder.specs.declared.call.Call.{Call}
use Rattle.pl_folder.proofs.ReplayLemmas.{settled_stands}
use Rattle.pl_folder.proofs.replay.Replay.step.Goals as goal

pub returns-in-Create : goal.returns-in-Create
returns-in-Create c = on_ok_weaker c.create.result (λ f s whole is. subst (λ (call : Call). Stands c.create.new.self (step_of call s)) (sym c.in-Create.is) (f s is)) c.create.ensures

pub returns-in-Remove : goal.returns-in-Remove
returns-in-Remove c = on_ok_weaker c.remove.result (λ f s whole is. subst (λ (call : Call). Stands c.remove.new.self (step_of call s)) (sym c.in-Remove.is) (f s is)) c.remove.ensures

pub returns-in-Settle : goal.returns-in-Settle
returns-in-Settle c = on_ok_weaker c.settle.result (λ f s whole is. subst (λ (call : Call). Stands c.settle.new.self (step_of call s)) (sym c.in-Settle.is) (settled_stands c.settle.new.self s (f s is))) c.settle.ensures
