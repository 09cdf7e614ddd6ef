use Rattle.std.proofs.Common.{List, ℕ, ap, ◌∙◌}
use Rattle.pl_base.specs.Windows.{◌⊕◌}
use Rattle.pl_form.proofs.PlaceLaws.{parts_more, parts_done}
use Rattle.pl_form.proofs.write.push_parts.Goals as goal

pub loop-part-preserved : goal.loop-part-preserved
loop-part-preserved c =
    parts_more c.args.next.now c.loop-part.part-index c.part-item.result c.loop-part.file.items _ _ c.loop-part-test.true c.part-item.is
    (c.in_ok-push_part.ensures ∙ ap (λ (xs : List ℕ). c.loop-part.file.items ⊕ xs) c.as_slice.ensures) c.loop-part.invariant

pub returns : goal.returns
returns c = parts_done c.args.next.now _ _ _ c.loop-part-test.false c.loop-part.invariant
