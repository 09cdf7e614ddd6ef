use Rattle.std.proofs.Common.{Bool, Option, Some, None, cond, ◌∙◌, ap, sym}
use Rattle.pl_conflict.specs.Conflicts.{row_of}
use Rattle.pl_conflict.proofs.HeldWordLaws.{row_by}
use Rattle.pl_lists.specs.declared.conflict_row.ConflictRow.{ConflictRow}
use Rattle.pl_value.specs.declared.word.Word.{Word}
use Rattle.pl_rewrite.specs.RemainingRows.{is_put}
use Rattle.pl_rewrite.proofs.conflict.row_with.Goals as goal

pub returns : goal.returns
returns c = λ files held.
    let g = c.args.meaning.now in
    let row : Option ConflictRow = Some (record { address = g.start; word = c.in-Put.word }) in
    let by = row_by files g.member g.start c.args.held c.in-Put.word c.is_same.result c.if-meaning-eq0.false (held (ap is_put c.in-Put.is)) c.is_same.ensures in
    sym (ap (λ (word : Word). row_of files g.member g.start word) c.in-Put.is ∙ by ∙ ap (λ (b : Bool). cond b None row) c.if-is_same.false)
