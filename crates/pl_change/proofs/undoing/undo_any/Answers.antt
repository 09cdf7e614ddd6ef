use Rattle.std.proofs.Common.{ℕ, List, subst}
use Rattle.std.specs.Prelude.{Ok}
use Rattle.pl_form.specs.Files.{file_in}
use Rattle.pl_change.specs.Answers.{Finds, BatchMeansAlone}
use Rattle.pl_change.specs.Undo.{form_row, undo_any}
use Rattle.pl_change.proofs.FindLemmas.{at_err}
use Rattle.pl_change.proofs.UndoLemmas.{any_taken, any_untaken, row}
use Rattle.pl_change.proofs.undoing.undo_any.Goals as goal

pub returns-in_err-bytes : goal.returns-in_err-bytes
returns-in_err-bytes g c =
    let seen = g.D.Folder.seen in
    at_err (λ r. Finds (undo_any (seen c.args.folder.now).files c.args.name.now) row r (seen c.args.folder.now) (seen c.take.new.folder)) c.from_residual.result c.in_err-bytes.field-0.0 c.from_residual.ensures.1
    (any_untaken c.args.name.now c.in_err-bytes.field-0.0 c.in_err-bytes.ensures.found)

pub returns : goal.returns
returns g c =
    any_taken c.args.name.now c.in_ok-bytes.bytes c.form_row.result c.in_ok-bytes.ensures.found
    (subst (λ (bytes : List ℕ). BatchMeansAlone (Ok (form_row c.args.name.now (file_in bytes))) c.form_row.result) c.deref.ensures.value c.form_row.ensures)
