use Rattle.std.proofs.Common.{◌∙◌, sym}
use Rattle.pl_change.specs.Answers.{Finds}
use Rattle.pl_change.specs.Looked.{passes_at}
use Rattle.pl_change.specs.declared.fault.BatchFault.TheVariants.{NoMemory}
use Rattle.pl_change.proofs.FindLemmas.{at_err}
use Rattle.pl_change.proofs.LookedLemmas.{again, again_more, looked_fails, looked_lacks, looked_passes, more_found, more_names, nothing}
use Rattle.pl_change.proofs.undoing.look_at.Goals as goal

pub returns-then-has-clause-passes : goal.returns-then-has-clause-passes
returns-then-has-clause-passes g c = again c.args.name.now (g.D.Folder.seen c.args.folder.now) c.args.looked.now c.requires (sym c.has.ensures ∙ c.if-has.true)

pub returns-then-has-clause-found : goal.returns-then-has-clause-found
returns-then-has-clause-found g c = c.requires

pub returns-then-has-clause-names : goal.returns-then-has-clause-names
returns-then-has-clause-names g c = again_more c.args.name.now c.args.looked.now (sym c.has.ensures ∙ c.if-has.true)

pub returns-in_err-row-clause-passes : goal.returns-in_err-row-clause-passes
returns-in_err-row-clause-passes g c =
    let seen = g.D.Folder.seen in
    let a = seen c.args.folder.now in
    at_err (λ r. Finds (passes_at a.files c.args.name.now) nothing r a (seen c.undo_asked.new.folder)) c.from_residual.result c.in_err-row.field-0.0 c.from_residual.ensures.1
    (looked_fails c.args.name.now c.in_err-row.field-0.0 c.in_err-row.ensures)

pub returns-in_err-put-clause-passes : goal.returns-in_err-put-clause-passes
returns-in_err-put-clause-passes g c =
    let seen = g.D.Folder.seen in
    let a = seen c.args.folder.now in
    at_err (λ r. Finds (passes_at a.files c.args.name.now) nothing r a (seen c.undo_asked.new.folder)) c.from_residual-in_err-put.result NoMemory c.from_residual-in_err-put.ensures.1
    (looked_lacks c.args.name.now c.in_ok-row.row c.in_ok-row.ensures)

pub returns-clause-passes : goal.returns-clause-passes
returns-clause-passes g c = looked_passes c.args.name.now c.in_ok-row.row c.in_ok-row.ensures

pub returns-clause-found : goal.returns-clause-found
returns-clause-found g c =
    let files = (g.D.Folder.seen c.args.folder.now).files in
    λ t. more_found c.args.name.now c.args.looked.now c.put.new.self c.in_ok-row.row c.in_ok-put.ensures files (c.requires t) (c.in_ok-row.ensures.means t)

pub returns-clause-names : goal.returns-clause-names
returns-clause-names g c = more_names c.args.name.now c.args.looked.now c.put.new.self c.in_ok-row.row c.in_ok-put.ensures
