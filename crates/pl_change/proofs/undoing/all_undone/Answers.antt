use Rattle.std.proofs.Common.{List, map, sym, ◌∙◌, ap, subst}
use Rattle.std.specs.Prelude.{string_bytes, String}
use Rattle.std.specs.declared.alloc.Global.{Global}
use Rattle.pl_change.specs.Answers.{Finds}
use Rattle.pl_change.specs.Names.{are_many}
use Rattle.pl_change.specs.Undo.{all_undone, if_valid, rows_of}
use Rattle.pl_change.proofs.FindLemmas.{at_err}
use Rattle.pl_change.proofs.UndoLemmas.{all_many, all_rows, all_unlisted, rows}
use Rattle.pl_change.proofs.undoing.all_undone.Goals as goal

pub returns-in_err-names : goal.returns-in_err-names
returns-in_err-names g c =
    let seen = g.D.Folder.seen in
    at_err (λ r. Finds (all_undone (seen c.args.folder.now).files) rows r (seen c.args.folder.now) (seen c.list.new.folder)) c.from_residual.result c.in_err-names.field-0.0 c.from_residual.ensures.1
    (all_unlisted c.in_err-names.field-0.0 c.in_err-names.ensures.found)

pub returns-then-are_many : goal.returns-then-are_many
returns-then-are_many g c =
    all_many c.in_ok-names.names c.in_ok-names.ensures.found (ap (λ (ns : List (String Global)). are_many (map string_bytes ns)) (sym c.deref.ensures.value) ∙ sym c.are_many.ensures ∙ c.if-are_many.true)

pub returns : goal.returns
returns g c =
    let seen = g.D.Folder.seen in
    all_rows c.in_ok-names.names c.in_ok-names.ensures.found c.undo_all.result (ap (λ (ns : List (String Global)). are_many (map string_bytes ns)) (sym c.deref.ensures.value) ∙ sym c.are_many.ensures ∙ c.if-are_many.false)
    (subst (λ (ns : List (String Global)). Finds (rows_of (if_valid (seen c.list.new.folder).files) (map string_bytes ns)) rows c.undo_all.result (seen c.list.new.folder) (seen c.undo_all.new.folder)) c.deref-2.ensures.value c.undo_all.ensures)
