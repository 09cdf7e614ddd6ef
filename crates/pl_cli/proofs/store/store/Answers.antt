use Rattle.std.proofs.Common.{ℕ, ap, subst, sym, ◌∙◌}
use Rattle.std.specs.Prelude.{Vec}
use Rattle.std.specs.declared.alloc.Global.{Global}
use Rattle.pl_folder.specs.Calls.{Calls}
use Rattle.pl_folder.specs.Seen.{Done}
use Rattle.pl_change.specs.Answers.{fault_ending}
use Rattle.pl_batch.specs.Changes.{IsRun, run_meant}
use Rattle.pl_change.specs.Commands.{Commands, Made, stopped}
use Rattle.pl_batch.specs.declared.run.Run.{Run}
use Rattle.pl_cli.specs.Came.{HasStored}
use Rattle.pl_texts.specs.Stops.{of_batch_fault}
use Rattle.pl_texts.specs.declared.stop.Stop.TheVariants as stops
use Rattle.pl_texts.proofs.StopLemmas.{at_err}
use Rattle.pl_cli.proofs.WriteLemmas.{lacking, no_content, unready, unstored, was_stored}
use Rattle.pl_cli.proofs.store.store.Goals as goal

pub returns-in_err-recover_for-clause-stored : goal.returns-in_err-recover_for-clause-stored
returns-in_err-recover_for-clause-stored g c =
    let folder = g.D.Folder.seen in
    let i = g.S.Source.seen c.args.input.now in
    let fault = c.in_err-recover_for.field-0.0 in
    at_err (λ r. HasStored c.args.name.now c.args.kind r (folder c.args.folder.now) (folder c.recover_for.new.folder) i i) c.from_residual.result (of_batch_fault fault) c.from_residual.ensures.1
    (unready c.args.name.now c.args.kind fault i (g.met.D.Folder.is_folder c.args.folder.now) c.in_err-recover_for.ensures.calls c.in_err-recover_for.ensures.named)

pub returns-in_err-bytes-clause-stored : goal.returns-in_err-bytes-clause-stored
returns-in_err-bytes-clause-stored g c =
    let folder = g.D.Folder.seen in
    let seen = g.S.Source.seen in
    let stop = c.in_err-bytes.field-0.0 in
    at_err (λ r. HasStored c.args.name.now c.args.kind r (folder c.args.folder.now) (folder c.recover_for.new.folder) (seen c.args.input.now) (seen c.content.new.input)) c.from_residual-in_err-bytes.result stop c.from_residual-in_err-bytes.ensures.1
    (no_content c.args.name.now c.args.kind c.in_ok-recover_for.ensures.named (g.met.D.Folder.is_folder c.args.folder.now) c.in_ok-recover_for.ensures.calls stop c.in_err-bytes.ensures.content)

pub returns-in_err-line-clause-stored : goal.returns-in_err-line-clause-stored
returns-in_err-line-clause-stored g c =
    let folder = g.D.Folder.seen in
    let seen = g.S.Source.seen in
    at_err (λ r. HasStored c.args.name.now c.args.kind r (folder c.args.folder.now) (folder c.recover_for.new.folder) (seen c.args.input.now) (seen c.content.new.input)) c.from_residual-in_err-line.result stops.NoMemory c.from_residual-in_err-line.ensures.1
    (lacking c.args.name.now c.args.kind c.in_ok-recover_for.ensures.named (g.met.D.Folder.is_folder c.args.folder.now) c.in_ok-recover_for.ensures.calls c.in_ok-bytes.bytes c.in_ok-bytes.ensures.content)

pub returns-in_err-run-clause-stored : goal.returns-in_err-run-clause-stored
returns-in_err-run-clause-stored g c =
    let folder = g.D.Folder.seen in
    let seen = g.S.Source.seen in
    at_err (λ r. HasStored c.args.name.now c.args.kind r (folder c.args.folder.now) (folder c.recover_for.new.folder) (seen c.args.input.now) (seen c.content.new.input)) c.from_residual-in_err-run.result stops.NoMemory c.from_residual-in_err-run.ensures.1
    (lacking c.args.name.now c.args.kind c.in_ok-recover_for.ensures.named (g.met.D.Folder.is_folder c.args.folder.now) c.in_ok-recover_for.ensures.calls c.in_ok-bytes.bytes c.in_ok-bytes.ensures.content)

pub do_run-requires : goal.do_run-requires
do_run-requires g c = subst IsRun (sym c.in_ok-run.ensures) c.in_ok-bytes.ensures.size

pub returns-in_err-do_run-clause-stored : goal.returns-in_err-do_run-clause-stored
returns-in_err-do_run-clause-stored g c =
    let folder = g.D.Folder.seen in
    let seen = g.S.Source.seen in
    let fault = c.in_err-do_run.field-0.0 in
    let call = subst (λ (run : Run). Calls (fault_ending fault) (Commands (run_meant run) (stopped fault)) (folder c.recover_for.new.folder) (folder c.do_run.new.folder)) c.in_ok-run.ensures c.in_err-do_run.ensures.calls in
    at_err (λ r. HasStored c.args.name.now c.args.kind r (folder c.args.folder.now) (folder c.do_run.new.folder) (seen c.args.input.now) (seen c.content.new.input)) c.from_residual-in_err-do_run.result (of_batch_fault fault) c.from_residual-in_err-do_run.ensures.1
    (unstored c.args.name.now c.args.kind c.in_ok-recover_for.ensures.named (g.met.D.Folder.is_folder c.args.folder.now) c.in_ok-recover_for.ensures.calls c.in_ok-bytes.bytes c.in_ok-bytes.ensures.content
    (g.met.D.Folder.is_folder c.recover_for.new.folder) fault call)

pub returns-clause-stored : goal.returns-clause-stored
returns-clause-stored g c =
    let folder = g.D.Folder.seen in
    let call = subst (λ (run : Run). Calls Done (Commands (run_meant run) Made) (folder c.recover_for.new.folder) (folder c.do_run.new.folder)) c.in_ok-run.ensures c.in_ok-do_run.ensures.calls in
    was_stored c.args.name.now c.args.kind c.in_ok-recover_for.ensures.named (g.met.D.Folder.is_folder c.args.folder.now) c.in_ok-recover_for.ensures.calls c.in_ok-bytes.bytes c.in_ok-bytes.ensures.content
    (g.met.D.Folder.is_folder c.recover_for.new.folder) c.into_bytes.result (ap (λ (v : Vec ℕ Global). v.items) c.into_bytes.ensures.value ∙ c.in_ok-line.ensures) call
