use Rattle.std.proofs.Common.{◌≡◌, ◌+◌, ℕ, List, Bool, [], ap, length, subst, sym, ◌∙◌, arith}
use Rattle.std.proofs.lemmas.List.{take_at}
use Rattle.pl_cone.specs.Table.{AreBelow}
use Rattle.pl_rewrite.specs.Outcomes.{AreHeldBefore}
use Rattle.pl_rewrite.proofs.FlagLaws.{flags_begin}
use Rattle.pl_rewrite.proofs.NumberedLaws.{walk_rows}
use Rattle.pl_rewrite.proofs.StaleLaws.{held_begin, held_done, held_more, held_none, held_walk}
use Rattle.pl_rewrite.proofs.outcomes.held_by_programs.Goals.{then-is_stale_program, else-is_stale_program}
use Rattle.pl_rewrite.proofs.outcomes.held_by_programs.Goals as goal

pub loop-row-init : goal.loop-row-init
loop-row-init c = held_begin c.args.numbered.now c.args.stale.now c.in_ok-held.held.items (c.in_ok-held.ensures.items_if_clones_equal (λ y e. e))

pub flag_all-requires : goal.flag_all-requires
flag_all-requires c =
    let n = c.args.numbered.now in
    let below = subst (AreBelow (length n.files.now)) (sym c.walk.ensures) (walk_rows n c.loop-row.row c.requires.numbered).within in
    let long : length n.files.now ≡ length c.deref_mut.result.now = sym (ap length c.deref_mut.ensures.value ∙ c.loop-row.invariant.count) in
    subst (λ (k : ℕ). AreBelow k c.walk.result.now) long below

pub loop-row-preserved : goal.loop-row-preserved
loop-row-preserved c = elim c.if-is_stale_program.branch [
  | then-is_stale_program w ↦
      let n = c.args.numbered.now in
      let on = sym c.is_stale_program.ensures ∙ w.if-is_stale_program.true in
      let after = w.flag_all.new.flags in
      let long : length after ≡ c.loop-row.held.len = omega (arith, w.flag_all.ensures.count, w.deref_mut.ensures.len, ap length w.deref_mut.ensures.value) in
      let flags = rw w.deref_mut.ensures.value at w.flag_all.ensures in
      rw w.held-is
      (subst (λ (fs : List Bool). AreHeldBefore n c.args.stale.now (c.loop-row.row + 1) fs) (sym (take_at after _ c.loop-row.held.len long))
      (held_more n c.args.stale.now c.loop-row.row (c.loop-row.row + 1) w.walk.result.now c.loop-row.held.items after (omega arith) (w.walk.ensures ∙ held_walk n c.args.stale.now c.loop-row.row on) c.loop-row.invariant flags))
  | else-is_stale_program w ↦
      let n = c.args.numbered.now in
      let off = sym c.is_stale_program.ensures ∙ w.if-is_stale_program.false in
      rw w.held-is (held_more n c.args.stale.now c.loop-row.row (c.loop-row.row + 1) [] c.loop-row.held.items c.loop-row.held.items (omega arith) (held_none n c.args.stale.now c.loop-row.row off) c.loop-row.invariant (flags_begin c.loop-row.held.items))
]

pub returns : goal.returns
returns c = held_done c.args.numbered.now c.args.stale.now c.loop-row.held.items c.loop-row.row (omega arith) c.loop-row.invariant
