use Rattle.std.proofs.Common.{◌≡◌, ℕ, List, true, false, Err, rules, sym, subst}
use Rattle.pl_base.specs.Names.{is_valid_name}
use Rattle.pl_base.proofs.NameLaws.{valid_length}
use Rattle.pl_change.specs.Answers.{Finds}
use Rattle.pl_rewrite.specs.TakenFile.{Taken}
use Rattle.pl_batch.specs.Verify.{wanted_file}
use Rattle.pl_change.specs.declared.cause.Cause.TheVariants.{NotThere}
use Rattle.pl_change.specs.declared.fault.BatchFault.TheVariants.{Cause, NoMemory}
use Rattle.pl_change.proofs.FindLemmas.{at_err}
use Rattle.pl_batch.proofs.VerifyLemmas.{wanted_invalid, wanted_lacks, wanted_valid}
use Rattle.pl_batch.proofs.verifying.take_wanted.Goals as goal

pub returns-then-not-is_valid_name-clause-found : goal.returns-then-not-is_valid_name-clause-found
returns-then-not-is_valid_name-clause-found g c =
    let invalid : is_valid_name c.args.name.now ≡ false = search rules in
    let a = g.D.Folder.seen c.args.folder.now in
    subst (λ (n : List ℕ). Finds (wanted_file a.files c.args.name.now) (λ (t : Taken). t.bytes) (Err (Cause (NotThere n))) a a) (sym c.in_ok-copy_of.ensures) (wanted_invalid c.args.name.now (λ (t : Taken). t.bytes) a invalid)

pub returns-in_err-copy_of-clause-found : goal.returns-in_err-copy_of-clause-found
returns-in_err-copy_of-clause-found g c =
    let a = g.D.Folder.seen c.args.folder.now in
    at_err (λ r. Finds (wanted_file a.files c.args.name.now) (λ (t : Taken). t.bytes) r a a) c.from_residual.result NoMemory c.from_residual.ensures.1 (wanted_lacks c.args.name.now (λ (t : Taken). t.bytes) a)

pub take_one-requires : goal.take_one-requires
take_one-requires g c =
    let valid : is_valid_name c.args.name.now ≡ true = search rules in
    valid_length c.args.name.now valid

pub returns-clause-found : goal.returns-clause-found
returns-clause-found g c =
    let valid : is_valid_name c.args.name.now ≡ true = search rules in
    wanted_valid c.args.name.now (λ (t : Taken). t.bytes) c.take_one.result valid c.take_one.ensures.found
