use Rattle.std.proofs.Common.{refl}
use Rattle.std.proofs.lemmas.Result.{err_from_is_err_and}
use Rattle.pl_ver.specs.declared.constants.TheConstants.{VERNEED_SIZE}
use Rattle.pl_ver.specs.Chains.{is_verneed, are_verneeds, needed_at, needed}
use Rattle.pl_ver.proofs.ChainLaws.{opened, goes_on}
use Rattle.pl_ver.proofs.CollectingLaws.{lists_more, lists_fail, lists_done}
use Rattle.pl_ver.proofs.collecting.with_needed.Goals as goal

pub loop-more-init : goal.loop-more-init
unfolding are_verneeds needed
loop-more-init c = ((c.requires.0, c.requires.1), refl)

pub with_needed_at-requires-clause-record : goal.with_needed_at-requires-clause-record
with_needed_at-requires-clause-record c =
    (opened (is_verneed c.loop-more.invariant.0.0 c.args.verneed.now) VERNEED_SIZE c.args.verneed.now _ _ c.loop-more-test.true c.loop-more.invariant.0.1).within

pub with_needed_at-requires-clause-chain : goal.with_needed_at-requires-clause-chain
with_needed_at-requires-clause-chain c = (
  c.loop-more.invariant.0.0,
  (opened (is_verneed c.loop-more.invariant.0.0 c.args.verneed.now) VERNEED_SIZE c.args.verneed.now _ _ c.loop-more-test.true c.loop-more.invariant.0.1).passed,
)

pub following-at-requires-clause-within : goal.following-at-requires-clause-within
following-at-requires-clause-within c =
    (opened (is_verneed c.loop-more.invariant.0.0 c.args.verneed.now) VERNEED_SIZE c.args.verneed.now _ _ c.loop-more-test.true c.loop-more.invariant.0.1).within

pub returns-in_err-records : goal.returns-in_err-records
returns-in_err-records c =
    let p = err_from_is_err_and c.from_residual.result c.from_residual.ensures.1 in
    rw (p.1, p.2) (lists_fail (needed_at c.args.verneed.now) VERNEED_SIZE c.args.verneed.now _ _ _ _ _ c.loop-more-test.true c.in_err-records.ensures c.loop-more.invariant.1)

pub loop-more-preserved : goal.loop-more-preserved
loop-more-preserved c = (
  (c.loop-more.invariant.0.0, goes_on (is_verneed c.loop-more.invariant.0.0 c.args.verneed.now) VERNEED_SIZE c.args.verneed.now _ _ _ c.loop-more-test.true c.following-at.ensures c.loop-more.invariant.0.1),
  lists_more (needed_at c.args.verneed.now) VERNEED_SIZE c.args.verneed.now _ _ _ _ _ _ c.loop-more-test.true c.following-at.ensures c.in_ok-records.ensures c.loop-more.invariant.1,
)

pub returns : goal.returns
returns c = lists_done (needed_at c.args.verneed.now) VERNEED_SIZE c.args.verneed.now _ _ _ _ c.loop-more-test.false c.loop-more.invariant.1
