use Rattle.std.proofs.Common.{◌++◌, ap, ◌∙◌}
use Rattle.pl_form.specs.Words.{bytes_of}
use Rattle.pl_form.specs.declared.file.Fill.{Fill}
use Rattle.pl_form.proofs.LoopLaws.{bytes_more, bytes_done}
use Rattle.pl_form.proofs.program_form.flat_of.Goals as goal

pub loop-fill-preserved : goal.loop-fill-preserved
loop-fill-preserved c =
    bytes_more bytes_of c.loop-fill.flat.items _ c.args.fills.now c.loop-fill.fill-index c.fill-item.result _ c.loop-fill-test.true
    (c.in_ok-push_fill.ensures ∙ ap (λ (f : Fill). c.loop-fill.flat.items ++ bytes_of f) c.fill-item.is) c.loop-fill.invariant

pub returns : goal.returns
returns c = bytes_done bytes_of _ c.args.fills.now _ _ c.loop-fill-test.false c.loop-fill.invariant
