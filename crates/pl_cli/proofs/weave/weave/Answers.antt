use Rattle.std.proofs.Common.{List, subst}
use Rattle.pl_base.specs.Files.{files_of}
use Rattle.pl_cli.specs.Came.{HasWoven}
use Rattle.pl_texts.specs.Stops.{MeansAlone, items_of, of_batch_fault}
use Rattle.pl_cli.specs.Weave.{weaves_by}
use Rattle.pl_texts.proofs.StopLemmas.{at_err}
use Rattle.pl_cli.proofs.WeaveLemmas.{File, no_script, not_copied, woven_so}
use Rattle.pl_cli.proofs.weave.weave.Goals as goal

pub returns-in_err-script : goal.returns-in_err-script
returns-in_err-script g c =
    let folder = g.D.Folder.seen in
    let seen = g.S.Source.seen in
    let stop = c.in_err-script.field-0.0 in
    at_err (λ r. HasWoven r (folder c.args.folder.now) (folder c.args.folder.now) (seen c.args.input.now) (seen c.script.new.input)) c.from_residual.result stop c.from_residual.ensures.1
    (no_script (folder c.args.folder.now) stop c.in_err-script.ensures.script)

pub returns-in_err-files : goal.returns-in_err-files
returns-in_err-files g c =
    let folder = g.D.Folder.seen in
    let seen = g.S.Source.seen in
    let fault = c.in_err-files.field-0.0 in
    at_err (λ r. HasWoven r (folder c.args.folder.now) (folder c.copy_files.new.folder) (seen c.args.input.now) (seen c.script.new.input)) c.from_residual-in_err-files.result (of_batch_fault fault) c.from_residual-in_err-files.ensures.1
    (not_copied c.in_ok-script.script c.in_ok-script.ensures.script fault c.in_err-files.ensures.found)

pub returns : goal.returns
returns g c =
    let script = c.in_ok-script.script in
    let result = c.weave_files.result in
    woven_so script c.in_ok-script.ensures.script (files_of c.in_ok-files.files.items) c.in_ok-files.ensures.found.means c.in_ok-files.ensures.found.calls result
    (subst (λ (files : List File). MeansAlone (weaves_by script (files_of files)) (items_of result)) c.deref.ensures.value c.weave_files.ensures)
