use Rattle.std.proofs.Common.{◌≡◌, ◌-◌, ◌<◌, List, [], length, get_or, arith, rules, refl, sym, ap, ◌∙◌}
use Rattle.std.proofs.lemmas.List.{get_or_default}
use Rattle.std.specs.Option.{option_copied}
use Rattle.pl_base.specs.Memory.{Fill}
use Rattle.pl_image.specs.declared.touched.Touch.{Touch}
use Rattle.pl_image.specs.Image.{Image}
use Rattle.pl_image.proofs.PlainLemmas.{patched_of}
use Rattle.pl_image.proofs.image.Image.patched_word.Goals as goal

pub returns-in-Some : goal.returns-in-Some
returns-in-Some c =
    let ts = c.args.touching.now in
    let last = length ts - 1 in
    let none : Touch = record { number = 0; patch = 0 } in
    let some : 0 < length ts = search rules in
    let within : last < length ts = omega (arith, some) in
    let whole = c.if-has_word.ensures in
    let index = (get_or ts last none).patch in
    let patches : c.self.inside.patches.items ≡ c.args.self.now.patches = ap (λ (i : Image). i.patches) c.self.view_is in
    let is : c.index.result.now ≡ get_or c.args.self.now.patches index (record { start = 0; bytes = [] }) =
    c.index.ensures
    ∙ ap (λ (fs : List Fill). get_or fs index c.index.result.now) patches
    ∙ get_or_default c.args.self.now.patches index c.index.result.now (record { start = 0; bytes = [] }) (c.requires.touching.inside last none within) in
    patched_of c.args.self.now c.args.pieces.now c.in-Some.piece.now ts c.args.number none c.index.result.now c.patch_word.result c.requires.own c.requires.touching some (c.requires.only last none within) is
    (c.if-not-is_shown.ensures refl) (sym c.piece_at.ensures ∙ ap option_copied c.in-Some.is) whole.0 whole.1 c.patch_word.ensures.whole c.patch_word.ensures.value
