use Rattle.std.proofs.Common.{refl}
use Rattle.std.proofs.lemmas.Result.{err_from_is_err_and}
use Rattle.pl_ver.specs.declared.constants.TheConstants.{VERNAUX_SIZE, VNA_NAME}
use Rattle.pl_ver.specs.Fields.{vernaux_at}
use Rattle.pl_ver.specs.Chains.{is_named, needed_at}
use Rattle.pl_ver.proofs.ChainLaws.{opened, goes_on, versions_chain}
use Rattle.pl_ver.proofs.CollectingLaws.{each_more, each_fails, each_done}
use Rattle.pl_ver.proofs.collecting.with_needed_at.Goals as goal

pub loop-more-init : goal.loop-more-init
unfolding needed_at
loop-more-init c =
    rw (c.verneed_versions-at.ensures, c.verneed_count-more.ensures)
    ((c.requires.chain.0, versions_chain c.requires.chain.0 c.args.verneed.now c.args.verneed_at c.requires.chain.1), refl)

pub vernaux_at-requires : goal.vernaux_at-requires
vernaux_at-requires c =
    (opened (is_named c.loop-more.invariant.0.0 c.args.verneed.now VNA_NAME) VERNAUX_SIZE c.args.verneed.now _ _ c.loop-more-test.true c.loop-more.invariant.0.1).within

pub following-at-requires-clause-within : goal.following-at-requires-clause-within
following-at-requires-clause-within c =
    (opened (is_named c.loop-more.invariant.0.0 c.args.verneed.now VNA_NAME) VERNAUX_SIZE c.args.verneed.now _ _ c.loop-more-test.true c.loop-more.invariant.0.1).within

pub returns-in_err-records : goal.returns-in_err-records
returns-in_err-records c =
    let p = err_from_is_err_and c.from_residual.result c.from_residual.ensures.1 in
    rw (p.1, p.2) (each_fails (vernaux_at c.args.verneed.now) VERNAUX_SIZE c.args.verneed.now _ _ _ _ _ _ c.loop-more-test.true c.vernaux_at.ensures c.in_err-records.ensures c.loop-more.invariant.1)

pub loop-more-preserved : goal.loop-more-preserved
loop-more-preserved c = (
  (c.loop-more.invariant.0.0, goes_on (is_named c.loop-more.invariant.0.0 c.args.verneed.now VNA_NAME) VERNAUX_SIZE c.args.verneed.now _ _ _ c.loop-more-test.true c.following-at.ensures c.loop-more.invariant.0.1),
  each_more (vernaux_at c.args.verneed.now) VERNAUX_SIZE c.args.verneed.now _ _ _ _ _ _ _ c.loop-more-test.true c.vernaux_at.ensures c.following-at.ensures c.in_ok-records.ensures c.loop-more.invariant.1,
)

pub returns : goal.returns
returns c = each_done (vernaux_at c.args.verneed.now) VERNAUX_SIZE c.args.verneed.now _ _ _ _ c.loop-more-test.false c.loop-more.invariant.1
