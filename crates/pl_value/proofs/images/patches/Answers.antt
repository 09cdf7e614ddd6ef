use Rattle.std.proofs.Common.{◌≡◌, List, ap, sym, ◌∙◌, ◌++◌}
use Rattle.pl_base.specs.Memory.{Memory, Fill, filled, layered}
use Rattle.pl_image.specs.Image.{Image, all_pieces, patched}
use Rattle.pl_value.specs.Linked.{words, copies}
use Rattle.pl_value.proofs.LinkedLaws.{words_alone}
use Rattle.pl_value.proofs.images.patches.Goals as goal

pub returns-then-not-any_copies : goal.returns-then-not-any_copies
returns-then-not-any_copies c =
    c.in_ok-words.ensures ∙ words_alone (layered (all_pieces c.args.loaded.now)) c.args.meanings.now (sym c.any_copies.ensures ∙ c.if-not-any_copies.true)

pub returns : goal.returns
returns c =
    let gs = c.args.meanings.now in
    let base = layered (all_pieces c.args.loaded.now) in
    let front : c.into_patches-patches.result.items ≡ words gs = c.into_patches-patches.ensures ∙ ap (λ (i : Image). i.patches) c.in_ok-worded.ensures ∙ c.in_ok-words.ensures in
    let memory : patched c.in_ok-worded.worded ≡ filled base (words gs) = ap patched c.in_ok-worded.ensures ∙ ap (filled base) c.in_ok-words.ensures in
    c.in_ok-append.ensures.items
    ∙ ap (λ (fs : List Fill). fs ++ c.in_ok-copies.copies.items) front
    ∙ ap (λ (fs : List Fill). words gs ++ fs) (c.in_ok-copies.ensures ∙ ap (λ (m : Memory). copies m gs) memory)
