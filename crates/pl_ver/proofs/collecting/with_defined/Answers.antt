use Rattle.std.proofs.Common.{refl}
use Rattle.std.proofs.lemmas.Result.{err_from_is_err_and}
use Rattle.pl_ver.specs.declared.constants.TheConstants.{VERDEF_SIZE}
use Rattle.pl_ver.specs.Fields.{verdef_at}
use Rattle.pl_ver.specs.Chains.{is_verdef, are_verdefs, defined}
use Rattle.pl_ver.proofs.ChainLaws.{opened, goes_on, first_name_lies}
use Rattle.pl_ver.proofs.CollectingLaws.{each_more, each_fails, each_done}
use Rattle.pl_ver.proofs.collecting.with_defined.Goals as goal

pub loop-more-init : goal.loop-more-init
unfolding are_verdefs defined
loop-more-init c = ((c.requires.0, c.requires.1), refl)

pub verdef_at-requires-clause-record : goal.verdef_at-requires-clause-record
verdef_at-requires-clause-record c =
    (opened (is_verdef c.loop-more.invariant.0.0 c.args.verdef.now) VERDEF_SIZE c.args.verdef.now _ _ c.loop-more-test.true c.loop-more.invariant.0.1).within

pub verdef_at-requires-clause-name : goal.verdef_at-requires-clause-name
verdef_at-requires-clause-name c =
    first_name_lies c.loop-more.invariant.0.0 c.args.verdef.now _
    (opened (is_verdef c.loop-more.invariant.0.0 c.args.verdef.now) VERDEF_SIZE c.args.verdef.now _ _ c.loop-more-test.true c.loop-more.invariant.0.1).passed

pub following-at-requires-clause-within : goal.following-at-requires-clause-within
following-at-requires-clause-within c =
    (opened (is_verdef c.loop-more.invariant.0.0 c.args.verdef.now) VERDEF_SIZE c.args.verdef.now _ _ c.loop-more-test.true c.loop-more.invariant.0.1).within

pub returns-in_err-records : goal.returns-in_err-records
returns-in_err-records c =
    let p = err_from_is_err_and c.from_residual.result c.from_residual.ensures.1 in
    rw (p.1, p.2) (each_fails (verdef_at c.args.verdef.now) VERDEF_SIZE c.args.verdef.now _ _ _ _ _ _ c.loop-more-test.true c.verdef_at.ensures c.in_err-records.ensures c.loop-more.invariant.1)

pub loop-more-preserved : goal.loop-more-preserved
loop-more-preserved c = (
  (c.loop-more.invariant.0.0, goes_on (is_verdef c.loop-more.invariant.0.0 c.args.verdef.now) VERDEF_SIZE c.args.verdef.now _ _ _ c.loop-more-test.true c.following-at.ensures c.loop-more.invariant.0.1),
  each_more (verdef_at c.args.verdef.now) VERDEF_SIZE c.args.verdef.now _ _ _ _ _ _ _ c.loop-more-test.true c.verdef_at.ensures c.following-at.ensures c.in_ok-records.ensures c.loop-more.invariant.1,
)

pub returns : goal.returns
returns c = each_done (verdef_at c.args.verdef.now) VERDEF_SIZE c.args.verdef.now _ _ _ _ c.loop-more-test.false c.loop-more.invariant.1
