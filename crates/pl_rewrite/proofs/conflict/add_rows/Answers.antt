use Rattle.std.proofs.Common.{Vec, Global, sym, ap, ◌∙◌}
use Rattle.std.proofs.lemmas.List.{append-nil}
use Rattle.std.proofs.lemmas.Result.{err_from_is_err_and}
use Rattle.pl_lists.specs.declared.conflict_row.ConflictRow.{ConflictRow}
use Rattle.pl_rewrite.proofs.RowsLaws.{rowed_begin, rowed_done, rowed_more, rowed_stops, told_below}
use Rattle.pl_rewrite.proofs.conflict.add_rows.Goals.{in-Some+in_ok-push, in_default}
use Rattle.pl_rewrite.proofs.conflict.add_rows.Goals as goal

pub loop-one-init : goal.loop-one-init
loop-one-init c = rowed_begin c.args.linking.now c.args.member c.args.relocs.now c.args.held.now c.args.rows.now.items c.requires.held

pub bounds-relocs-one : goal.bounds-relocs-one
bounds-relocs-one c = told_below c.args.linking.now c.args.member c.args.relocs.now c.args.held.now c.loop-one.one-index _ c.args.rows.now.items c.loop-one.rows.items c.loop-one-test.true c.loop-one.invariant

pub gives-requires-clause-reference : goal.gives-requires-clause-reference
gives-requires-clause-reference c =
    c.requires.references _ _ (told_below c.args.linking.now c.args.member c.args.relocs.now c.args.held.now c.loop-one.one-index _ c.args.rows.now.items c.loop-one.rows.items c.loop-one-test.true c.loop-one.invariant)

pub returns-in_err-meaning-clause-refused : goal.returns-in_err-meaning-clause-refused
returns-in_err-meaning-clause-refused c =
    let p = err_from_is_err_and c.from_residual.result c.from_residual.ensures.1 in
    rw (p.1, p.2) (rowed_stops c.args.linking.now c.args.member c.args.relocs.now c.args.held.now c.loop-one.one-index _ _ _ c.args.rows.now.items c.loop-one.rows.items c.loop-one-test.true c.in_err-meaning.ensures c.loop-one.invariant)

pub loop-one-preserved : goal.loop-one-preserved
loop-one-preserved c = elim c.match-row_with.branch [
  | in-Some+in_ok-push w ↦
      let made = rw (w.in-Some.is) at c.row_with.ensures in
      let more = ap (λ (v : Vec ConflictRow Global). v.items) w.rows-is ∙ w.in_ok-push.ensures.items in
      rowed_more c.args.linking.now c.args.member c.args.relocs.now c.args.held.now c.loop-one.one-index _ _ _ _ _ _ _ c.loop-one-test.true c.in_ok-meaning.ensures made more c.loop-one.invariant
  | in_default w ↦
      let made = rw (w.in_default.is) at c.row_with.ensures in
      let more = ap (λ (v : Vec ConflictRow Global). v.items) w.rows-is ∙ sym (append-nil c.loop-one.rows.items) in
      rowed_more c.args.linking.now c.args.member c.args.relocs.now c.args.held.now c.loop-one.one-index _ _ _ _ _ _ _ c.loop-one-test.true c.in_ok-meaning.ensures made more c.loop-one.invariant
]

pub returns-clause-added : goal.returns-clause-added
returns-clause-added c = rowed_done c.args.linking.now c.args.member c.args.relocs.now c.args.held.now c.loop-one.one-index _ _ c.loop-one-test.false c.loop-one.invariant
