use Rattle.std.proofs.Common.{ap, sym, ◌∙◌, Vec, Global}
use Rattle.std.proofs.lemmas.List.{append-nil}
use Rattle.pl_lists.specs.declared.conflict_row.ConflictRow.{ConflictRow}
use Rattle.pl_conflict.proofs.HeldLaws.{rows_more}
use Rattle.pl_conflict.proofs.rows.rows_of.Goals.{in-Some+in_ok-push, in_default}
use Rattle.pl_conflict.proofs.rows.rows_of.Goals as goal

pub row_of-requires-clause-member : goal.row_of-requires-clause-member
row_of-requires-clause-member c = c.requires.members c.loop-meaning.meaning-index _ c.loop-meaning-test.true

pub loop-meaning-preserved : goal.loop-meaning-preserved
loop-meaning-preserved c = elim c.match-branch-2.branch [
  | in-Some+in_ok-push w ↦
      let more = ap (λ (v : Vec ConflictRow Global). v.items) w.rows-is ∙ w.in_ok-push.ensures.items in
      rows_more c.args.files.now c.args.meanings.now c.loop-meaning.meaning-index _ c.loop-meaning.rows.items c.match-branch-2.rows.items _ c.loop-meaning-test.true (sym w.in-Some.is ∙ c.in_ok-row.ensures) more c.loop-meaning.invariant
  | in_default w ↦
      let more = ap (λ (v : Vec ConflictRow Global). v.items) w.rows-is ∙ sym (append-nil c.loop-meaning.rows.items) in
      rows_more c.args.files.now c.args.meanings.now c.loop-meaning.meaning-index _ c.loop-meaning.rows.items c.match-branch-2.rows.items _ c.loop-meaning-test.true (sym w.in_default.is ∙ c.in_ok-row.ensures) more c.loop-meaning.invariant
]
