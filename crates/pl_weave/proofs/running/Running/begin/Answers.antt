use Rattle.std.proofs.Common.{◌≡◌, ◌∙◌, Ok, Err, List, Result, refl, ap, sym, subst}
use Rattle.pl_base.specs.Files.{Files}
use Rattle.pl_change.specs.declared.cause.Cause.{Cause}
use Rattle.pl_journal.specs.declared.change.Change.{Change}
use Rattle.pl_weave.specs.Running.{Begins, Idles, files_in}
use Rattle.pl_weave.specs.Runs.{run_rows}
use Rattle.pl_weave.proofs.QuietLemmas.{rows_storable}
use Rattle.pl_weave.proofs.RunningLemmas.{begins_from, begins_refused, idles_same}
use Rattle.pl_weave.proofs.running.Running.begin.Goals as goal

-- with `mid` the machine after rows_of: record c.args.self.now { held = c.rows_of.new.held }
pub returns-in_ok-begin_with-in-Ok-clause-begins : goal.returns-in_ok-begin_with-in-Ok-clause-begins
returns-in_ok-begin_with-in-Ok-clause-begins c files idle =
    let mid = record c.args.self.now { held = c.rows_of.new.held } in
    let is : run_rows c.args.run.now files ≡ Ok c.in-Ok.rows = ap (run_rows c.args.run.now) (sym idle.same) ∙ sym c.in_ok-rows.ensures.rows ∙ c.in-Ok.is in
    subst (λ (r : Result (List Change) Cause). Begins r files c.args.self.now c.begin_with.new.self) (sym is)
    (begins_from files mid c.args.self.now c.begin_with.new.self (Ok c.in-Ok.rows) refl (c.in_ok-begin_with-in-Ok.ensures.begins files (idles_same files c.args.self.now mid c.in_ok-rows.ensures.same refl refl idle) (rows_storable c.args.run.now files c.in-Ok.rows is)))

pub returns-in_ok-push-in-Err-clause-begins : goal.returns-in_ok-push-in-Err-clause-begins
returns-in_ok-push-in-Err-clause-begins c files idle =
    let next = record c.args.self.now { held = c.rows_of.new.held; finished = c.push.new.self } in
    let is : run_rows c.args.run.now files ≡ Err c.in-Err.cause = ap (run_rows c.args.run.now) (sym idle.same) ∙ sym c.in_ok-rows.ensures.rows ∙ c.in-Err.is in
    subst (λ (r : Result (List Change) Cause). Begins r files c.args.self.now next) (sym is)
    (begins_refused files c.args.self.now next c.in-Err.cause (idles_same files c.args.self.now next c.in_ok-rows.ensures.same refl refl idle) c.in_ok-push-in-Err.ensures.ok)
