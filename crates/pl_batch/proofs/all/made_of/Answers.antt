use Rattle.std.proofs.Common.{sym, ◌∙◌, subst}
use Rattle.std.specs.Prelude.{Result, Err}
use Rattle.pl_base.specs.Answers.{Answers}
use Rattle.pl_rewrite.specs.Taken.{files_in, names_of}
use Rattle.pl_rewrite.specs.Faulted.{is_memory}
use Rattle.pl_rewrite.specs.PlanningFault.{PlanningFault}
use Rattle.pl_rewrite.specs.declared.rewriting.Rewritten.{Rewritten}
use Rattle.pl_change.specs.Answers.{BatchMeansAlone}
use Rattle.pl_change.specs.declared.fault.BatchFault.{BatchFault}
use Rattle.pl_batch.specs.All.{made_of}
use Rattle.pl_batch.proofs.AllLemmas.{asked_is, rewritten, unplanned}
use Rattle.pl_batch.proofs.all.made_of.Goals as goal

pub returns-in-Err : goal.returns-in-Err
returns-in-Err c =
    let files = files_in c.args.files in
    let ns = names_of c.args.files in
    let p = c.args.asked.now in
    subst (λ (fault : BatchFault). BatchMeansAlone (made_of files ns p c.args.old.now c.args.cache.now) (Err fault)) (sym c.unplanned.ensures)
    (unplanned files ns p c.args.old.now c.args.cache.now c.in-Err.fault (subst (λ (m : Result Rewritten PlanningFault). Answers is_memory (Err c.in-Err.fault) m) (asked_is files ns p c.args.cache.now c.as_slice.result c.as_slice.ensures) c.in-Err.ensures))

pub returns-in-Ok : goal.returns-in-Ok
returns-in-Ok c =
    let files = files_in c.args.files in
    let ns = names_of c.args.files in
    let p = c.args.asked.now in
    rewritten files ns p c.args.old.now c.args.cache.now c.in-Ok.rewritten c.spelled.result (sym (asked_is files ns p c.args.cache.now c.as_slice.result c.as_slice.ensures) ∙ c.in-Ok.ensures) c.spelled.ensures
