use Rattle.std.proofs.Common.{ℕ, List}
use Rattle.pl_build.specs.Dynamic.{tag}
use Rattle.pl_dyn.specs.declared.constants.TheConstants.{DT_NEEDED}
use Rattle.pl_build.specs.StringTable.{text_at}
use Rattle.pl_build.proofs.ListLaws.{map_more, map_done}
use Rattle.pl_build.proofs.dynamic.needed_tags.Goals as goal

pub loop-name-preserved : goal.loop-name-preserved
loop-name-preserved c = map_more (λ (name : List ℕ). tag DT_NEEDED (text_at c.args.plan.now.strings name)) _ _ _ _ c.name-item.result _ c.loop-name-test.true c.name-item.is (rw (c.tag.ensures, c.text_at.ensures, c.as_slice.ensures) at c.in_ok-push.ensures.items) c.loop-name.invariant

pub returns : goal.returns
returns c = map_done (λ (name : List ℕ). tag DT_NEEDED (text_at c.args.plan.now.strings name)) _ _ _ _ c.loop-name-test.false c.loop-name.invariant
