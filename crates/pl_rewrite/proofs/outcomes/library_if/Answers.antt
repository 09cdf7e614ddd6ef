use Rattle.std.proofs.Common.{sym, ◌∙◌}
use Rattle.pl_rewrite.specs.Outcomes as spec
use Rattle.pl_rewrite.specs.Outcomes.{IsMadeAt}
use Rattle.pl_rewrite.specs.declared.outcomes.RowOutcome.TheVariants as outcomes
use Rattle.pl_rewrite.proofs.MadeRowLaws.{if_not, if_so, library_none, library_there}
use Rattle.pl_rewrite.proofs.ProgramRowLaws.{stale_library_row}
use Rattle.pl_rewrite.proofs.RowTestLaws.{file_or}
use Rattle.pl_rewrite.proofs.outcomes.library_if.Goals as goal

pub is_stale_library-requires-clause-one_each : goal.is_stale_library-requires-clause-one_each
is_stale_library-requires-clause-one_each c = c.requires.run.column.count

pub returns-then-not-is_stale_library : goal.returns-then-not-is_stale_library
returns-then-not-is_stale_library c =
    if_not (IsMadeAt c.args.numbered.now c.args.row) (spec.is_stale_library c.args.numbered.now c.args.stale.now c.args.row) (sym c.is_stale_library.ensures ∙ c.if-not-is_stale_library.true)

pub new_library-requires-clause-row : goal.new_library-requires-clause-row
new_library-requires-clause-row c = stale_library_row c.args.numbered.now c.args.stale.now c.args.row c.requires.run.numbered c.requires.row c.requires.run.column (sym c.is_stale_library.ensures ∙ c.if-not-is_stale_library.false)

pub new_library-requires-clause-words : goal.new_library-requires-clause-words
new_library-requires-clause-words c = c.requires.words (sym c.is_stale_library.ensures ∙ c.if-not-is_stale_library.false)

pub returns-in-Some : goal.returns-in-Some
returns-in-Some c =
    let n = c.args.numbered.now in
    let on = sym c.is_stale_library.ensures ∙ c.if-not-is_stale_library.false in
    let at = stale_library_row n c.args.stale.now c.args.row c.requires.run.numbered c.requires.row c.requires.run.column on in
    if_so (IsMadeAt n c.args.row) (spec.is_stale_library n c.args.stale.now c.args.row) (outcomes.Library c.in-Some.library) on
    (library_there n c.args.row c.in_ok-made.made c.in-Some.library at.library c.in-Some.is c.in_ok-made.ensures)

pub returns-in_ok-too_large-in-None : goal.returns-in_ok-too_large-in-None
returns-in_ok-too_large-in-None c =
    let n = c.args.numbered.now in
    let on = sym c.is_stale_library.ensures ∙ c.if-not-is_stale_library.false in
    let at = stale_library_row n c.args.stale.now c.args.row c.requires.run.numbered c.requires.row c.requires.run.column on in
    let file = file_or n c.args.row c.index-numbered-row.result c.requires.row in
    if_so (IsMadeAt n c.args.row) (spec.is_stale_library n c.args.stale.now c.args.row) (outcomes.Original c.in_ok-too_large-in-None.field-0) on
    (library_none n c.args.row c.in_ok-made.made _ c.in_ok-too_large-in-None.field-0 at.walk c.in-None.is c.in_ok-made.ensures file c.in_ok-too_large-in-None.ensures)
