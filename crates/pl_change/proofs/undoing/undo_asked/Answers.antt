use Rattle.std.proofs.Common.{◌≡◌, ℕ, List, true, false, rules, subst}
use Rattle.pl_base.specs.Names.{is_valid_name}
use Rattle.pl_base.proofs.NameLaws.{valid_length}
use Rattle.pl_form.specs.Files.{file_in}
use Rattle.pl_change.specs.Answers.{Finds, BatchMeansAlone}
use Rattle.pl_change.specs.Undo.{asked_row, undo_asked}
use Rattle.pl_change.proofs.FindLemmas.{at_err}
use Rattle.pl_change.proofs.UndoLemmas.{asked_taken, asked_untaken, bad_name, row}
use Rattle.pl_change.proofs.undoing.undo_asked.Goals as goal

pub returns-then-not-is_valid_name : goal.returns-then-not-is_valid_name
returns-then-not-is_valid_name g c =
    let invalid : is_valid_name c.args.name.now ≡ false = search rules in
    bad_name c.args.name.now (g.D.Folder.seen c.args.folder.now) invalid

pub take-requires : goal.take-requires
take-requires g c =
    let valid : is_valid_name c.args.name.now ≡ true = search rules in
    valid_length c.args.name.now valid

pub returns-in_err-bytes : goal.returns-in_err-bytes
returns-in_err-bytes g c =
    let seen = g.D.Folder.seen in
    let valid : is_valid_name c.args.name.now ≡ true = search rules in
    at_err (λ r. Finds (undo_asked (seen c.args.folder.now).files c.args.name.now) row r (seen c.args.folder.now) (seen c.take.new.folder)) c.from_residual.result c.in_err-bytes.field-0.0 c.from_residual.ensures.1
    (asked_untaken c.args.name.now c.in_err-bytes.field-0.0 valid c.in_err-bytes.ensures.found)

pub returns : goal.returns
returns g c =
    let valid : is_valid_name c.args.name.now ≡ true = search rules in
    asked_taken c.args.name.now c.in_ok-bytes.bytes c.asked_row.result valid c.in_ok-bytes.ensures.found
    (subst (λ (bytes : List ℕ). BatchMeansAlone (asked_row c.args.name.now (file_in bytes)) c.asked_row.result) c.deref.ensures.value c.asked_row.ensures)
