use Rattle.std.proofs.Common.{sym, ◌∙◌, arith}
use Rattle.pl_rewrite.proofs.RowTestLaws.{file_or}
use Rattle.pl_rewrite.proofs.RowWordLaws.{asked_is}
use Rattle.pl_rewrite.proofs.StaleLaws.{not_library, stale_library}
use Rattle.pl_rewrite.proofs.outcomes.is_stale_library.Goals as goal

pub bounds-stale-row : goal.bounds-stale-row
bounds-stale-row c = omega (arith, c.requires.row, c.requires.one_each)

pub returns-then-stale-row : goal.returns-then-stale-row
returns-then-stale-row c =
    let asked = sym (asked_is c.args.stale.now c.args.row _ (omega (arith, c.requires.row, c.requires.one_each))) ∙ c.if-stale-row.true in
    let at = file_or c.args.numbered.now c.args.row c.index-numbered-row.result c.requires.row in
    stale_library c.args.numbered.now c.args.stale.now c.args.row _ c.is_library.result asked at c.is_library.ensures

pub returns-else-stale-row : goal.returns-else-stale-row
returns-else-stale-row c = c.if-stale-row.false ∙ not_library c.args.numbered.now c.args.stale.now c.args.row (sym (asked_is c.args.stale.now c.args.row _ (omega (arith, c.requires.row, c.requires.one_each))) ∙ c.if-stale-row.false)
