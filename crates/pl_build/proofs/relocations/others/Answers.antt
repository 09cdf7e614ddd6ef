use Rattle.std.proofs.Common.{sym, ◌∙◌}
use Rattle.pl_build.specs.LayoutPlan.{is_other}
use Rattle.pl_build.specs.Relocations.{rela_bytes, rela_of}
use Rattle.pl_build.proofs.ListLaws.{passing_more, passing_less, passing_done}
use Rattle.pl_build.proofs.relocations.others.Goals.{then-is_other+in_ok-push_to, else-is_other}
use Rattle.pl_build.proofs.relocations.others.Goals as goal

pub loop-relocation-preserved : goal.loop-relocation-preserved
loop-relocation-preserved c = elim c.if-is_other.branch [
  | then-is_other+in_ok-push_to w ↦
      rw w.out-is (passing_more is_other (rela_of c.args.plan.now) rela_bytes _ _ _ _ c.relocation-item.result _ c.loop-relocation-test.true c.relocation-item.is (sym c.is_other.ensures ∙ w.if-is_other.true) (rw w.rela_of.ensures at w.in_ok-push_to.ensures) c.loop-relocation.invariant)
  | else-is_other w ↦ rw w.out-is (passing_less is_other (rela_of c.args.plan.now) rela_bytes _ _ _ c.relocation-item.result _ c.loop-relocation-test.true c.relocation-item.is (sym c.is_other.ensures ∙ w.if-is_other.false) c.loop-relocation.invariant)
]

pub returns : goal.returns
returns c = passing_done is_other (rela_of c.args.plan.now) rela_bytes _ _ _ _ c.loop-relocation-test.false c.loop-relocation.invariant
