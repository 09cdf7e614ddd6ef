use Rattle.std.proofs.Common.{Vec, Global, ap, sym, ◌∙◌}
use Rattle.pl_value.specs.declared.meaning.Meaning.{Meaning}
use Rattle.pl_rewrite.proofs.NearLaws.{near_begin, near_done, near_far, near_other, near_pushed, not_refused}
use Rattle.pl_rewrite.specs.Ranges.{is_near}
use Rattle.pl_rewrite.proofs.conflict.add_near.Goals.{then-is_near+in_ok-meaning+then-is_near_word+in_ok-push, then-is_near+in_ok-meaning+else-is_near_word, else-is_near}
use Rattle.pl_rewrite.proofs.conflict.add_near.Goals as goal

pub loop-reloc-init : goal.loop-reloc-init
loop-reloc-init c = near_begin c.args.linking.now c.args.member c.args.relocs.now c.args.ranges.now c.args.near.now.items

pub gives-requires-clause-reference : goal.gives-requires-clause-reference
gives-requires-clause-reference c = c.requires.references c.loop-reloc.reloc-index _ c.loop-reloc-test.true

pub returns-in_err-meaning-clause-refused : goal.returns-in_err-meaning-clause-refused
returns-in_err-meaning-clause-refused c =
    absurd (not_refused c.args.linking.now c.args.member c.args.relocs.now c.requires.given.0 c.loop-reloc.reloc-index _ _ c.requires.given.1 c.loop-reloc-test.true c.in_err-meaning.ensures)

pub loop-reloc-preserved : goal.loop-reloc-preserved
loop-reloc-preserved c = elim c.if-is_near.branch [
  | then-is_near+in_ok-meaning+then-is_near_word+in_ok-push w ↦
      let more = ap (λ (v : Vec Meaning Global). v.items) w.near-is ∙ w.in_ok-push.ensures.items in
      near_pushed c.args.linking.now c.args.member c.args.relocs.now c.args.ranges.now c.loop-reloc.reloc-index _ _ c.args.near.now.items c.loop-reloc.near.items c.if-is_near.near.items c.loop-reloc-test.true w.in_ok-meaning.ensures
      (sym w.if-is_near_word.true ∙ w.is_near_word.ensures) more c.loop-reloc.invariant
  | then-is_near+in_ok-meaning+else-is_near_word w ↦
      rw w.near-is
      (near_other c.args.linking.now c.args.member c.args.relocs.now c.args.ranges.now c.loop-reloc.reloc-index _ _ c.args.near.now.items c.loop-reloc.near.items c.loop-reloc-test.true w.in_ok-meaning.ensures
      (sym w.if-is_near_word.false ∙ w.is_near_word.ensures) c.loop-reloc.invariant)
  | else-is_near w ↦
      rw w.near-is
      (near_far c.args.linking.now c.args.member c.args.relocs.now c.args.ranges.now c.loop-reloc.reloc-index _ c.args.near.now.items c.loop-reloc.near.items c.loop-reloc-test.true
      (sym w.if-is_near.false ∙ c.is_near.ensures ∙ ap (is_near c.args.ranges.now) c.start_of.ensures) c.loop-reloc.invariant)
]

pub returns-clause-added : goal.returns-clause-added
returns-clause-added c = near_done c.args.linking.now c.args.member c.args.relocs.now c.args.ranges.now c.loop-reloc.reloc-index c.args.near.now.items c.loop-reloc.near.items c.loop-reloc-test.false c.loop-reloc.invariant
