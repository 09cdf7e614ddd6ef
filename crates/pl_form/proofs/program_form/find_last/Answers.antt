use Rattle.std.proofs.Common.{◌-◌, length, sym, ◌∙◌, arith}
use Rattle.pl_form.proofs.LastLaws.{seek_first, seek_next, seek_found, seek_none}
use Rattle.pl_form.proofs.program_form.find_last.Goals as goal

pub loop-past-init : goal.loop-past-init
loop-past-init c = seek_first c.args.segments.now _ (omega arith)

pub returns-then-is_load : goal.returns-then-is_load
returns-then-is_load c =
    sym (seek_found c.args.segments.now (length c.args.segments.now - c.loop-past.past) (length c.args.segments.now - 1 - c.loop-past.past) _ c.loop-past.invariant (omega (arith, c.loop-past-test.true)) (sym c.is_load.ensures ∙ c.if-is_load.true))

pub loop-past-preserved : goal.loop-past-preserved
loop-past-preserved c =
    seek_next c.args.segments.now (length c.args.segments.now - c.loop-past.past) (length c.args.segments.now - 1 - c.loop-past.past) _ _ c.loop-past.invariant (omega (arith, c.loop-past-test.true)) (omega (arith, c.loop-past-test.true))
    (sym c.is_load.ensures ∙ c.if-is_load.false)

pub returns : goal.returns
returns c = sym (seek_none c.args.segments.now _ c.loop-past.invariant (omega (arith, c.loop-past-test.false)))
