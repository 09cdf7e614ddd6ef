use Rattle.std.proofs.Common.{ℕ, List, ◌∙◌, ap}
use Rattle.pl_change.specs.Answers.{Finds}
use Rattle.pl_change.specs.Names.{file_of}
use Rattle.pl_change.specs.declared.fault.BatchFault.TheVariants.{NoMemory}
use Rattle.pl_change.proofs.FindLemmas.{at_err}
use Rattle.pl_rewrite.specs.Taken.{taken_of}
use Rattle.pl_batch.proofs.ReadLemmas.{bytes, one_lacks, one_name, one_taken, one_untaken}
use Rattle.pl_batch.proofs.reading.take_one.Goals as goal

pub returns-in_err-bytes-clause-found : goal.returns-in_err-bytes-clause-found
returns-in_err-bytes-clause-found g c =
    let seen = g.D.Folder.seen in
    let a = seen c.args.folder.now in
    let fault = c.in_err-bytes.field-0.0 in
    at_err (λ r. Finds (file_of a.files c.args.name.now) bytes r a (seen c.take.new.folder)) c.from_residual.result fault c.from_residual.ensures.1 (one_untaken c.args.name.now fault c.in_err-bytes.ensures.found)

pub returns-in_err-name-clause-found : goal.returns-in_err-name-clause-found
returns-in_err-name-clause-found g c =
    let seen = g.D.Folder.seen in
    let a = seen c.args.folder.now in
    at_err (λ r. Finds (file_of a.files c.args.name.now) bytes r a (seen c.take.new.folder)) c.from_residual-in_err-name.result NoMemory c.from_residual-in_err-name.ensures.1 (one_lacks c.args.name.now c.in_ok-bytes.bytes c.in_ok-bytes.ensures.found)

pub returns-in_err-take_file-clause-found : goal.returns-in_err-take_file-clause-found
returns-in_err-take_file-clause-found g c =
    let seen = g.D.Folder.seen in
    let a = seen c.args.folder.now in
    at_err (λ r. Finds (file_of a.files c.args.name.now) bytes r a (seen c.take.new.folder)) c.from_residual-in_err-take_file.result NoMemory c.from_residual-in_err-take_file.ensures.1 (one_lacks c.args.name.now c.in_ok-bytes.bytes c.in_ok-bytes.ensures.found)

pub returns-clause-found : goal.returns-clause-found
returns-clause-found g c =
    let file = c.in_ok-bytes.bytes in
    one_taken c.args.name.now file c.args.region c.in_ok-take_file.field-0 c.in_ok-bytes.ensures.found
    (c.in_ok-take_file.ensures.value ∙ ap (λ (n : List ℕ). taken_of c.args.region n file.items) c.in_ok-name.ensures)

pub returns-clause-name : goal.returns-clause-name
returns-clause-name g c =
    let file = c.in_ok-bytes.bytes in
    one_name c.args.name.now file.items c.args.region c.in_ok-take_file.field-0
    (c.in_ok-take_file.ensures.value ∙ ap (λ (n : List ℕ). taken_of c.args.region n file.items) c.in_ok-name.ensures)
