use Rattle.std.proofs.Common.{arith}
use Rattle.pl_tls.proofs.LayoutLaws.{none_more, one_more, is_far, are_all}
use Rattle.pl_tls.proofs.layout.offsets.Goals as goal

pub loop-member-preserved-in_default : goal.loop-member-preserved-in_default
loop-member-preserved-in_default c = none_more _ _ _ _ _ c.loop-member-test.true c.in_default.is c.loop-member.invariant

pub returns-then-offset-from : goal.returns-then-offset-from
returns-then-offset-from c =
    is_far _ _ _ _ c.offset_after-offset.result c.in-Some.block _ c.loop-member-test.true c.in-Some.is c.offset_after-offset.ensures (omega (arith, c.if-offset-from.true, c.from.ensures)) c.loop-member.invariant

pub loop-member-preserved : goal.loop-member-preserved
loop-member-preserved c =
    one_more _ _ _ _ _ c.in-Some.block _ _ c.loop-member-test.true c.in-Some.is c.offset_after-offset.ensures (omega (arith, c.if-offset-from.false, c.from.ensures)) c.in_ok-push.ensures.ok c.loop-member.invariant

pub returns : goal.returns
returns c = are_all _ _ _ _ _ (omega (arith, c.loop-member-test.false, c.loop-member.auto.member-end)) c.loop-member.invariant
