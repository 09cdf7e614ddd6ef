use Rattle.std.proofs.Common.{◌≡◌, ◌<◌, ◌^◌, ℕ, List, length, true, false, arith, rules, subst}
use Rattle.pl_base.specs.Names.{is_valid_name}
use Rattle.pl_base.proofs.NameLaws.{valid_length}
use Rattle.pl_form.specs.Files.{file_in}
use Rattle.std.specs.Prelude.{Err, Ok, Result}
use Rattle.pl_change.specs.Answers.{Finds, BatchMeansAlone}
use Rattle.pl_change.specs.Replace.{original_of}
use Rattle.pl_change.specs.Store.{stored_as}
use Rattle.pl_change.specs.declared.cause.Cause.{Cause}
use Rattle.pl_change.proofs.FindLemmas.{at_err}
use Rattle.pl_change.proofs.ReplaceLemmas.{as_bytes, original_bad, original_small, original_taken, original_untaken}
use Rattle.pl_change.proofs.fixing.take_original.Goals as goal

pub returns-then-not-is_valid_name-clause-found : goal.returns-then-not-is_valid_name-clause-found
returns-then-not-is_valid_name-clause-found g c =
    let invalid : is_valid_name c.args.name.now ≡ false = search rules in
    original_bad c.args.name.now (g.D.Folder.seen c.args.folder.now) invalid

pub take-requires : goal.take-requires
take-requires g c =
    let valid : is_valid_name c.args.name.now ≡ true = search rules in
    valid_length c.args.name.now valid

pub returns-in_err-file-clause-found : goal.returns-in_err-file-clause-found
returns-in_err-file-clause-found g c =
    let seen = g.D.Folder.seen in
    let a = seen c.args.folder.now in
    let valid : is_valid_name c.args.name.now ≡ true = search rules in
    let fault = c.in_err-file.field-0.0 in
    at_err (λ r. Finds (original_of a.files c.args.name.now) as_bytes r a (seen c.take.new.folder)) c.from_residual.result fault c.from_residual.ensures.1
    (original_untaken c.args.name.now fault valid c.in_err-file.ensures.found)

pub returns-in_err-original-clause-found : goal.returns-in_err-original-clause-found
returns-in_err-original-clause-found g c =
    let seen = g.D.Folder.seen in
    let a = seen c.args.folder.now in
    let valid : is_valid_name c.args.name.now ≡ true = search rules in
    let fault = c.in_err-original.field-0.0 in
    at_err (λ r. Finds (original_of a.files c.args.name.now) as_bytes r a (seen c.take.new.folder)) c.from_residual-in_err-original.result fault c.from_residual-in_err-original.ensures.1
    (original_taken c.args.name.now c.in_ok-file.file (Err fault) valid c.in_ok-file.ensures.found
    (subst (λ (bytes : List ℕ). BatchMeansAlone (stored_as c.args.name.now bytes (file_in bytes)) (Err fault)) c.deref.ensures.value c.in_err-original.ensures))

pub returns-clause-found : goal.returns-clause-found
returns-clause-found g c =
    let valid : is_valid_name c.args.name.now ≡ true = search rules in
    let original = c.in_ok-original.original in
    original_taken c.args.name.now c.in_ok-file.file (Ok original) valid c.in_ok-file.ensures.found
    (subst (λ (bytes : List ℕ). BatchMeansAlone (stored_as c.args.name.now bytes (file_in bytes)) (Ok original)) c.deref.ensures.value c.in_ok-original.ensures)

pub returns-clause-valid : goal.returns-clause-valid
returns-clause-valid g c = search rules

pub returns-clause-small : goal.returns-clause-small
returns-clause-small g c =
    let original = c.in_ok-original.original in
    let stored : stored_as c.args.name.now c.in_ok-file.file.items (file_in c.in_ok-file.file.items) ≡ Ok original =
    subst (λ (bytes : List ℕ). ◌≡◌ {A = Result (List ℕ) Cause} (stored_as c.args.name.now bytes (file_in bytes)) (Ok original)) c.deref.ensures.value c.in_ok-original.ensures in
    let few : length c.in_ok-file.file.items < 2 ^ 32 = omega (arith, c.in_ok-file.ensures.stored) in
    original_small c.args.name.now c.in_ok-file.file.items original few stored
