use Rattle.std.proofs.Common.{◌++◌, Option, ℕ, ap, ◌∙◌, length, get_or}
use Rattle.pl_form.specs.Words.{filled}
use Rattle.pl_form.proofs.LayoutLaws.{filled_more, filled_done, spot_in}
use Rattle.pl_form.proofs.library_form.all_filled.Goals as goal

pub push_filled-requires : goal.push_filled-requires
push_filled-requires c = spot_in (length c.args.bytes.now) c.args.spots.now c.loop-index.index _ c.requires c.loop-index-test.true

pub loop-index-preserved : goal.loop-index-preserved
loop-index-preserved c =
    filled_more c.args.bytes.now c.args.spots.now c.args.words.now c.loop-index.index (record { at = 0; size = 0; hidden = 0; behind = 0 }) c.loop-index.out.items _ _ c.loop-index-test.true
    (c.in_ok-push_filled.ensures ∙ ap (λ (word : Option ℕ). c.loop-index.out.items ++ filled c.args.bytes.now (get_or c.args.spots.now c.loop-index.index (record { at = 0; size = 0; hidden = 0; behind = 0 })) word) c.word_at-word.ensures) c.loop-index.invariant

pub returns : goal.returns
returns c = filled_done c.args.bytes.now c.args.spots.now c.args.words.now _ _ _ c.loop-index-test.false c.loop-index.invariant
