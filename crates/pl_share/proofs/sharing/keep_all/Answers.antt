use Rattle.std.proofs.Common.{◌∙◌, ap, arith}
use Rattle.pl_share.specs.Shared.{kept}
use Rattle.pl_share.proofs.StepLaws.{kept_more, kept_all}
use Rattle.pl_share.proofs.sharing.keep_all.Goals as goal

pub loop-position-preserved : goal.loop-position-preserved
loop-position-preserved c = record {
  so_far = kept_more c.args.asked.now.rows.now c.args.asked.now.walks.now c.args.asked.now.region c.loop-position.given c.keep.new.given c.args.wants.now c.loop-position.position c.index-wants-position.result _ c.loop-position-test.true
      (c.in_ok-keep.ensures.kept ∙ ap (kept c.args.asked.now.rows.now c.args.asked.now.walks.now c.args.asked.now.region c.loop-position.given c.loop-position.position) c.index-wants-position.is) c.loop-position.invariant.so_far;
  given = c.in_ok-keep.ensures.given;
}

pub returns-clause-kept : goal.returns-clause-kept
returns-clause-kept c = kept_all c.args.asked.now.rows.now c.args.asked.now.walks.now c.args.asked.now.region c.loop-position.given c.args.wants.now c.loop-position.position _ (omega arith) c.loop-position.invariant.so_far
