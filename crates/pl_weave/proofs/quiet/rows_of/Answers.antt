use Rattle.std.proofs.Common.{◌≡◌, ◌∙◌, List, Ok, Err, true, refl, sym, subst, rules}
use Rattle.std.specs.Prelude.{IfOk, Result}
use Rattle.pl_change.specs.declared.fault.BatchFault.{BatchFault}
use Rattle.pl_change.specs.declared.fault.BatchFault.TheVariants.{DiskFailed}
use Rattle.pl_change.specs.declared.fault.BatchFault.TheVariants as faults
use Rattle.pl_journal.specs.Meaning.{rows_for}
use Rattle.pl_journal.specs.Spelling.{are_rows}
use Rattle.pl_journal.specs.declared.change.Change.{Change}
use Rattle.pl_weave.proofs.QuietLemmas.{cause_found, never_found, rows_are, rows_fit, rows_found}
use Rattle.pl_weave.proofs.quiet.rows_of.Goals as goal

pub returns-in-Ok-clause-rows : goal.returns-in-Ok-clause-rows
returns-in-Ok-clause-rows c =
    let is : c.changes_of.result ≡ Ok c.in-Ok.rows = search rules in
    c.storable.ensures ∙ rows_are c.args.run.now _ (Ok c.in-Ok.rows) c.requires.no_own (rows_found c.args.held.now.folder c.changes_of.new.folder c.changes_of.result c.changes_of.ensures.found c.in-Ok.rows is)

pub returns-in-Ok-clause-fits : goal.returns-in-Ok-clause-fits
returns-in-Ok-clause-fits c =
    let is : c.changes_of.result ≡ Ok c.in-Ok.rows = search rules in
    rw c.storable.ensures (rows_fit c.in-Ok.rows (subst (λ (r : Result (List Change) BatchFault). IfOk r (λ rows. are_rows (rows_for rows) ≡ true)) is c.changes_of.ensures.fits))

pub returns-in-Err-Cause-clause-rows : goal.returns-in-Err-Cause-clause-rows
returns-in-Err-Cause-clause-rows c =
    let is : c.changes_of.result ≡ Err (faults.Cause c.in-Err-Cause.cause) = search rules in
    rows_are c.args.run.now _ (Err c.in-Err-Cause.cause) c.requires.no_own (cause_found c.args.held.now.folder c.changes_of.new.folder c.changes_of.result c.changes_of.ensures.found c.in-Err-Cause.cause is)

pub unreachable-requires : goal.unreachable-requires
unreachable-requires c =
    let is : c.changes_of.result ≡ Err DiskFailed = search rules in
    never_found c.args.held.now.folder c.changes_of.new.folder c.changes_of.result c.changes_of.ensures.found is
