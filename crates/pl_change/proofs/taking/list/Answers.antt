use Rattle.std.proofs.Common.{map}
use Rattle.std.specs.Prelude.{Ok, Vec, String, string_bytes}
use Rattle.std.specs.declared.alloc.Global.{Global}
use Rattle.std.specs.FinMap.{keys}
use Rattle.pl_change.specs.Answers.{Finds, of_folder}
use Rattle.pl_change.proofs.FindLemmas.{at_err, listed, unlisted}
use Rattle.pl_change.proofs.taking.list.Goals as goal

pub returns-in_err-names-clause-found : goal.returns-in_err-names-clause-found
returns-in_err-names-clause-found g c =
    let seen = g.D.Folder.seen in
    at_err (λ r. Finds (Ok (keys (seen c.args.folder.now).files)) (λ (names : Vec (String Global) Global). map string_bytes names.items) r (seen c.args.folder.now) (seen c.names.new.self)) c.from_residual.result (of_folder c.in_err-names.field-0.0) c.from_residual.ensures.1
    (unlisted c.in_err-names.field-0.0 c.in_err-names.ensures)

pub returns-clause-found : goal.returns-clause-found
returns-clause-found g c = listed c.in_ok-names.field-0 c.in_ok-names.ensures
