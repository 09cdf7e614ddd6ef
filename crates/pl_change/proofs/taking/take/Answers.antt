use Rattle.std.proofs.Common.{sym, subst}
use Rattle.std.specs.Prelude.{Err, ℕ, Vec}
use Rattle.std.specs.declared.alloc.Global.{Global}
use Rattle.pl_change.specs.Answers.{Finds}
use Rattle.pl_change.specs.Names.{file_of}
use Rattle.pl_change.specs.declared.fault.BatchFault.{BatchFault}
use Rattle.pl_change.specs.declared.fault.BatchFault.TheVariants.{NoMemory}
use Rattle.pl_change.proofs.FindLemmas.{at_err, took, untaken, untold}
use Rattle.pl_change.proofs.taking.take.Goals as goal

pub returns-in-Ok-clause-found : goal.returns-in-Ok-clause-found
returns-in-Ok-clause-found g c = took c.args.name.now c.in-Ok.bytes c.in-Ok.ensures

pub returns-in_ok-untaken-in-Err-clause-found : goal.returns-in_ok-untaken-in-Err-clause-found
returns-in_ok-untaken-in-Err-clause-found g c =
    let seen = g.D.Folder.seen in
    subst (λ (fault : BatchFault). Finds (file_of (seen c.args.folder.now).files c.args.name.now) (λ (bytes : Vec ℕ Global). bytes.items) (Err fault) (seen c.args.folder.now) (seen c.take.new.self)) (sym c.in_ok-untaken-in-Err.ensures.fault) (untaken c.args.name.now c.in-Err.fault c.in-Err.ensures)

pub returns-in_err-untaken-in-Err-clause-found : goal.returns-in_err-untaken-in-Err-clause-found
returns-in_err-untaken-in-Err-clause-found g c =
    let seen = g.D.Folder.seen in
    at_err (λ r. Finds (file_of (seen c.args.folder.now).files c.args.name.now) (λ (bytes : Vec ℕ Global). bytes.items) r (seen c.args.folder.now) (seen c.take.new.self)) c.from_residual.result NoMemory c.from_residual.ensures.1
    (untold c.args.name.now c.in-Err.fault c.in_err-untaken-in-Err.ensures.lacks c.in-Err.ensures)
