use Rattle.std.proofs.Common.{sym, ap, ◌∙◌}
use Rattle.pl_load_tests.specs.declared.walked.Original.{Original}
use Rattle.pl_load_tests.proofs.MapLaws.{mapped_more, mapped_all, fused}
use Rattle.pl_load_tests.proofs.walked.slots_of.Goals as goal

pub loop-original-preserved : goal.loop-original-preserved
loop-original-preserved c = mapped_more (λ s. s.span) (λ f. f.object.span) c.args.order.now c.loop-original.original-index c.original-item.result c.loop-original.slots.items _ _ _ c.loop-original-test.true c.in_ok-push.ensures.items (ap (λ (f : Original). f.object.span) c.original-item.is) c.loop-original.invariant

pub returns : goal.returns
returns c = mapped_all (λ s. s.span) (λ f. f.object.span) c.args.order.now _ c.loop-original.slots.items _ c.loop-original-test.false c.loop-original.invariant ∙ sym (fused (λ f. f.object) (λ o. o.span) c.args.order.now)
