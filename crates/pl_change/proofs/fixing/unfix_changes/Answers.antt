use Rattle.std.proofs.Common.{◌<◌, ◌^◌, ℕ, List, length, sym, subst}
use Rattle.std.specs.Prelude.{Err, Ok}
use Rattle.pl_base.proofs.NameLaws.{valid_length}
use Rattle.pl_change.specs.Answers.{Finds, BatchMeansAlone}
use Rattle.pl_change.specs.Replace.{loosened_of, replacement_of}
use Rattle.pl_change.proofs.FindLemmas.{at_err}
use Rattle.pl_change.proofs.ReplaceLemmas.{made_put, no_original, unmade}
use Rattle.pl_change.proofs.UndoLemmas.{rows}
use Rattle.pl_change.proofs.fixing.unfix_changes.Goals as goal

pub loosened_of-requires : goal.loosened_of-requires
loosened_of-requires g c = subst (λ (xs : List ℕ). length xs < 2 ^ 32) (sym c.as_slice.ensures) c.in_ok-original.ensures.small

pub put_fitting-requires : goal.put_fitting-requires
put_fitting-requires g c = valid_length c.args.name.now c.in_ok-original.ensures.valid

pub returns-in_err-original-clause-found : goal.returns-in_err-original-clause-found
returns-in_err-original-clause-found g c =
    let seen = g.D.Folder.seen in
    let a = seen c.args.folder.now in
    let name = c.args.name.now in
    let fault = c.in_err-original.field-0.0 in
    at_err (λ r. Finds (replacement_of (loosened_of name) a.files name) rows r a (seen c.take_original.new.folder)) c.from_residual.result fault c.from_residual.ensures.1
    (no_original (loosened_of name) name fault c.in_err-original.ensures.found)

pub returns-in_err-bytes-clause-found : goal.returns-in_err-bytes-clause-found
returns-in_err-bytes-clause-found g c =
    let seen = g.D.Folder.seen in
    let a = seen c.args.folder.now in
    let name = c.args.name.now in
    let fault = c.in_err-bytes.field-0.0 in
    at_err (λ r. Finds (replacement_of (loosened_of name) a.files name) rows r a (seen c.take_original.new.folder)) c.from_residual-in_err-bytes.result fault c.from_residual-in_err-bytes.ensures.1
    (unmade (loosened_of name) name c.in_ok-original.original c.in_ok-original.ensures.found fault
    (subst (λ (xs : List ℕ). BatchMeansAlone (loosened_of name xs) (Err fault)) c.as_slice.ensures c.in_err-bytes.ensures))

pub returns-in_err-rows-clause-found : goal.returns-in_err-rows-clause-found
returns-in_err-rows-clause-found g c =
    let seen = g.D.Folder.seen in
    let a = seen c.args.folder.now in
    let name = c.args.name.now in
    let fault = c.in_err-rows.field-0.0 in
    let bytes = c.in_ok-bytes.bytes in
    at_err (λ r. Finds (replacement_of (loosened_of name) a.files name) rows r a (seen c.put_fitting.new.folder)) c.from_residual-in_err-rows.result fault c.from_residual-in_err-rows.ensures.1
    (made_put (loosened_of name) name c.in_ok-original.original c.in_ok-original.ensures.found bytes
    (subst (λ (xs : List ℕ). BatchMeansAlone (loosened_of name xs) (Ok bytes)) c.as_slice.ensures c.in_ok-bytes.ensures) (Err fault) c.in_err-rows.ensures.found)

pub returns-clause-found : goal.returns-clause-found
returns-clause-found g c =
    let name = c.args.name.now in
    let bytes = c.in_ok-bytes.bytes in
    made_put (loosened_of name) name c.in_ok-original.original c.in_ok-original.ensures.found bytes
    (subst (λ (xs : List ℕ). BatchMeansAlone (loosened_of name xs) (Ok bytes)) c.as_slice.ensures c.in_ok-bytes.ensures) (Ok c.in_ok-rows.rows) c.in_ok-rows.ensures.found
