use Rattle.std.proofs.Common.{refl, sym, ◌∙◌}
use Rattle.std.proofs.lemmas.Result.{IfOk-weaker}
use Rattle.pl_rewrite.proofs.ProgramFileLaws.{new_program, not_set, too_large}
use Rattle.pl_rewrite.proofs.program.program_file.Goals as goal

pub are_set-requires-clause-numbered : goal.are_set-requires-clause-numbered
are_set-requires-clause-numbered c = c.requires.work.numbered

pub are_set-requires-clause-rows : goal.are_set-requires-clause-rows
are_set-requires-clause-rows c = c.requires.program.walk.rows

pub are_set-requires-clause-sources : goal.are_set-requires-clause-sources
are_set-requires-clause-sources c = c.requires.program.walk.sources

pub returns-then-not-set : goal.returns-then-not-set
returns-then-not-set c = not_set c.args.work.now c.args.row c.requires.program c.args.version (sym c.in_ok-set.ensures ∙ c.if-not-set.true)

pub placed-requires : goal.placed-requires
placed-requires c = c.requires.work.numbered

pub file_with-requires-clause-program : goal.file_with-requires-clause-program
file_with-requires-clause-program c = record { work = c.requires.work; program = c.requires.program; set = sym c.in_ok-set.ensures ∙ c.if-not-set.false }

pub file_with-requires-clause-placed : goal.file_with-requires-clause-placed
file_with-requires-clause-placed c = c.in_ok-placed.ensures

pub returns-in-Ok : goal.returns-in-Ok
returns-in-Ok c =
    IfOk-weaker c.file_with.result _ _
    (λ made e. new_program c.args.work.now c.args.row c.requires.program c.args.version c.in_ok-placed.placed.walk.scope c.in_ok-placed.placed c.in-Ok.modules c.as_slice.result.now made (sym c.in_ok-set.ensures ∙ c.if-not-set.false) c.in_ok-placed.ensures refl c.in-Ok.ensures c.as_slice.ensures e) c.file_with.ensures

pub returns-in-Err-TooLarge : goal.returns-in-Err-TooLarge
returns-in-Err-TooLarge c =
    too_large c.args.work.now c.args.row c.requires.program c.args.version c.in_ok-placed.placed.walk.scope c.in_ok-placed.placed _ (sym c.in_ok-set.ensures ∙ c.if-not-set.false) c.in_ok-placed.ensures refl (rw c.in-Err-TooLarge.field-0-is at c.in-Err-TooLarge.ensures)
