use Rattle.std.proofs.Common.{◌∙◌}
use Rattle.pl_base.proofs.RunLaws.{run_done}
use Rattle.pl_cone.specs.declared.skip.Skip.TheVariants as skips
use Rattle.pl_cone.proofs.FormedLaws.{by_row, fault_none, fault_some, formed_more, formed_stops, rows_formed}
use Rattle.pl_cone.proofs.linking.all_formed.Goals as goal

pub loop-row-init : goal.loop-row-init
loop-row-init c = rows_formed c.requires.files.0 c.args.files.now c.args.walk.now c.requires.files.1 c.requires.walk.each

pub returns-in-Some : goal.returns-in-Some
returns-in-Some c =
    formed_stops c.args.files.now c.args.walk.now c.loop-row.row-index c.index-files-row.result (skips.Form c.in_ok-name.name c.in-Some.number) _ c.loop-row-test.true c.requires.walk.within c.index-files-row.is (fault_some c.index-files-row.result c.in-Some.number c.in_ok-name.name c.in-Some.is (c.in_ok-name.ensures ∙ c.as_str.ensures)) c.loop-row.invariant

pub loop-row-preserved : goal.loop-row-preserved
loop-row-preserved c =
    formed_more c.args.files.now c.args.walk.now c.loop-row.row-index c.index-files-row.result _ c.loop-row-test.true c.requires.walk.within c.index-files-row.is (fault_none c.index-files-row.result c.in_default.is) c.loop-row.invariant

pub returns : goal.returns
returns c = run_done (by_row c.args.files.now) tt c.args.walk.now c.loop-row.row-index _ c.loop-row-test.false c.loop-row.invariant
