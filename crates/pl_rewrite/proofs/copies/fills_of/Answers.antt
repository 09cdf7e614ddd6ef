use Rattle.std.proofs.Common.{◌≤◌, Vec, Global, ap, get_or, sym, ◌∙◌, arith, length}
use Rattle.pl_form.specs.declared.file.Fill.{Fill}
use Rattle.pl_value.specs.declared.meaning.Meaning.{Meaning}
use Rattle.pl_value.specs.declared.word.Word.TheVariants.{Nothing}
use Rattle.pl_rewrite.proofs.PlaceLaws.{fill_is, fill_none, fill_pushed, fills_begin, fills_done, fills_more}
use Rattle.pl_rewrite.proofs.copies.fills_of.Goals.{then-has_place+in_ok-bytes+in_ok-push, else-has_place}
use Rattle.pl_rewrite.proofs.copies.fills_of.Goals as goal

nothing : Meaning
nothing = record { member = 0; start = 0; size = 0; word = Nothing }

pub loop-index-init : goal.loop-index-init
loop-index-init c = fills_begin c.args.filling.now c.args.relocs.now c.args.meanings.now _ c.in_ok-fills.ensures.items

pub bytes_at-requires-clause-member : goal.bytes_at-requires-clause-member
bytes_at-requires-clause-member c = c.requires.members c.loop-index.index _ (omega (arith, c.requires.one_each))

pub loop-index-preserved : goal.loop-index-preserved
loop-index-preserved c = elim c.if-has_place.branch [
  | then-has_place+in_ok-bytes+in_ok-push w ↦
      let more = ap (λ (v : Vec Fill Global). v.items) w.fills-is ∙ w.in_ok-push.ensures.items in
      fills_more c.args.filling.now c.args.relocs.now c.args.meanings.now c.loop-index.index _ (record { member = 0; start = 0; size = 0; word = _ }) _ _ (omega arith) c.requires.one_each
      (fill_pushed c.args.filling.now _ (get_or c.args.meanings.now c.loop-index.index (record { member = 0; start = 0; size = 0; word = _ })) _ c.loop-index.fills.items c.if-has_place.fills.items (sym c.has_place.ensures ∙ w.if-has_place.true)
      (fill_is c.args.filling.now _ (get_or c.args.meanings.now c.loop-index.index (record { member = 0; start = 0; size = 0; word = _ })) w.in_ok-bytes.bytes.items w.from_vec.result w.in_ok-bytes.ensures w.from_vec.ensures) more) c.loop-index.invariant
  | else-has_place w ↦
      rw w.fills-is
      (fills_more c.args.filling.now c.args.relocs.now c.args.meanings.now c.loop-index.index _ nothing c.loop-index.fills.items c.loop-index.fills.items (omega arith) c.requires.one_each
      (fill_none c.args.filling.now _ (get_or c.args.meanings.now c.loop-index.index nothing) c.loop-index.fills.items (sym c.has_place.ensures ∙ w.if-has_place.false)) c.loop-index.invariant)
]

pub returns : goal.returns
returns c =
    let le : length c.args.relocs.now ≤ c.loop-index.index = omega (arith, c.loop-index-test.false) in
    fills_done c.args.filling.now c.args.relocs.now c.args.meanings.now c.loop-index.index _ le c.requires.one_each c.loop-index.invariant
