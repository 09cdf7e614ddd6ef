use Rattle.std.proofs.Common.{sym, ◌∙◌}
use Rattle.pl_rewrite.specs.Outcomes as spec
use Rattle.pl_rewrite.specs.Outcomes.{IsMadeAt}
use Rattle.pl_rewrite.specs.declared.outcomes.RowOutcome.TheVariants as outcomes
use Rattle.pl_rewrite.proofs.MadeRowLaws.{if_not, if_so, program_none, program_there}
use Rattle.pl_rewrite.proofs.RowTestLaws.{file_or}
use Rattle.pl_rewrite.proofs.outcomes.program_if.Goals as goal

pub is_stale_program-requires-clause-one_each : goal.is_stale_program-requires-clause-one_each
is_stale_program-requires-clause-one_each c = c.requires.programs.count

pub returns-then-not-is_stale_program : goal.returns-then-not-is_stale_program
returns-then-not-is_stale_program c =
    let n = c.args.work.now.numbered.now in
    if_not (IsMadeAt n c.args.row) (spec.is_stale_program n c.args.stale.now c.args.row) (sym c.is_stale_program.ensures ∙ c.if-not-is_stale_program.true)

pub program_file-requires-clause-work : goal.program_file-requires-clause-work
program_file-requires-clause-work c = c.requires.programs.work

pub program_file-requires-clause-program : goal.program_file-requires-clause-program
program_file-requires-clause-program c = c.requires.programs.rows c.args.row (sym c.is_stale_program.ensures ∙ c.if-not-is_stale_program.false)

pub returns-in-Some : goal.returns-in-Some
returns-in-Some c =
    let n = c.args.work.now.numbered.now in
    let on = sym c.is_stale_program.ensures ∙ c.if-not-is_stale_program.false in
    if_so (IsMadeAt n c.args.row) (spec.is_stale_program n c.args.stale.now c.args.row) (outcomes.Program c.in-Some.program) on
    (program_there n c.args.row c.in_ok-made.made c.in-Some.program (c.requires.programs.rows c.args.row on).program c.in-Some.is c.in_ok-made.ensures)

pub returns-in_ok-too_large-in-None : goal.returns-in_ok-too_large-in-None
returns-in_ok-too_large-in-None c =
    let n = c.args.work.now.numbered.now in
    let on = sym c.is_stale_program.ensures ∙ c.if-not-is_stale_program.false in
    let at = file_or n c.args.row c.index-work-row.result c.requires.row in
    if_so (IsMadeAt n c.args.row) (spec.is_stale_program n c.args.stale.now c.args.row) (outcomes.Original c.in_ok-too_large-in-None.field-0) on
    (program_none n c.args.row c.in_ok-made.made _ c.in_ok-too_large-in-None.field-0 c.in-None.is c.in_ok-made.ensures at c.in_ok-too_large-in-None.ensures)
