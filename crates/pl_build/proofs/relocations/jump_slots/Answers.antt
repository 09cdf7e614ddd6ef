use Rattle.std.proofs.Common.{sym, ◌∙◌}
use Rattle.pl_build.specs.LayoutPlan.{is_jump_slot}
use Rattle.pl_build.specs.Relocations.{rela_bytes, rela_of}
use Rattle.pl_build.proofs.ListLaws.{passing_more, passing_less, passing_done}
use Rattle.pl_build.proofs.relocations.jump_slots.Goals.{then-is_jump_slot+in_ok-push_to, else-is_jump_slot}
use Rattle.pl_build.proofs.relocations.jump_slots.Goals as goal

pub loop-relocation-preserved : goal.loop-relocation-preserved
loop-relocation-preserved c = elim c.if-is_jump_slot.branch [
  | then-is_jump_slot+in_ok-push_to w ↦
      rw w.out-is (passing_more is_jump_slot (rela_of c.args.plan.now) rela_bytes _ _ _ _ c.relocation-item.result _ c.loop-relocation-test.true c.relocation-item.is (sym c.is_jump_slot.ensures ∙ w.if-is_jump_slot.true) (rw w.rela_of.ensures at w.in_ok-push_to.ensures) c.loop-relocation.invariant)
  | else-is_jump_slot w ↦ rw w.out-is (passing_less is_jump_slot (rela_of c.args.plan.now) rela_bytes _ _ _ c.relocation-item.result _ c.loop-relocation-test.true c.relocation-item.is (sym c.is_jump_slot.ensures ∙ w.if-is_jump_slot.false) c.loop-relocation.invariant)
]

pub returns : goal.returns
returns c = passing_done is_jump_slot (rela_of c.args.plan.now) rela_bytes _ _ _ _ c.loop-relocation-test.false c.loop-relocation.invariant
