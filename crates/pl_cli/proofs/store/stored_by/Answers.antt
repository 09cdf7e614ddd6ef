use Rattle.pl_texts.specs.Stops.{MeansAlone}
use Rattle.pl_cli.specs.Writes.{content}
use Rattle.std.proofs.Common.{arith, ◌<◌, ◌≤◌, length}
use Rattle.pl_folder.specs.declared.TheConstants.{STORED}
use Rattle.pl_cli.proofs.ContentLemmas.{is_stored, no_file, not_stored}
use Rattle.pl_texts.proofs.StopLemmas.{at_err}
use Rattle.pl_cli.proofs.store.stored_by.Goals as goal

pub returns-in_err-file-clause-means : goal.returns-in_err-file-clause-means
returns-in_err-file-clause-means c =
    let stop = c.in_err-file.field-0.0 in
    at_err (λ r. MeansAlone (content c.args.kind c.args.input.items) r) c.from_residual.result stop c.from_residual.ensures.1
    (no_file c.args.kind c.args.input.items c.requires stop c.in_err-file.ensures)

pub returns-then-len-gt-STORED-clause-means : goal.returns-then-len-gt-STORED-clause-means
returns-then-len-gt-STORED-clause-means c =
    let more : STORED < length c.in_ok-file.file = omega (arith, c.len.ensures) in
    not_stored c.args.kind c.args.input.items c.requires c.in_ok-file.file c.in_ok-file.ensures more

pub returns-clause-means : goal.returns-clause-means
returns-clause-means c =
    let few : length c.in_ok-file.file ≤ STORED = omega (arith, c.len.ensures) in
    is_stored c.args.kind c.args.input.items c.requires c.in_ok-file.file c.in_ok-file.ensures few
