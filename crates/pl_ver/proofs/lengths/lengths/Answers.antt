use Rattle.std.proofs.Common.{arith}
use Rattle.pl_ver.specs.Chains.{is_named}
use Rattle.pl_ver.proofs.LengthLaws.{no_lengths, one_more, from_next}
use Rattle.pl_ver.proofs.lengths.lengths.Goals as goal

pub loop-at-init : goal.loop-at-init
loop-at-init c = (
  omega arith,
  no_lengths (is_named c.args.strings.now c.args.section.now c.args.field) c.args.size c.args.section.now _ c.requires.next (c.in_ok-lengths.ensures.items_if_clones_equal (λ y e. e)),
)

pub length_at-requires-clause-behind : goal.length_at-requires-clause-behind
length_at-requires-clause-behind c =
    rw c.deref.ensures.value (from_next (is_named c.args.strings.now c.args.section.now c.args.field) c.args.size c.args.section.now _ _ c.loop-at-test.true c.loop-at.invariant.1)

pub index_mut-requires : goal.index_mut-requires
index_mut-requires c = omega (arith, c.loop-at.invariant.1.same, c.loop-at.lengths.ok)

pub loop-at-preserved : goal.loop-at-preserved
loop-at-preserved c = (
  omega arith,
  one_more (is_named c.args.strings.now c.args.section.now c.args.field) c.args.size c.args.section.now _ _ _ c.loop-at-test.true c.loop-at.invariant.0 c.loop-at.invariant.1 c.length_at.ensures,
)
