use Rattle.std.proofs.Common.{◌≡◌, ◌∙◌, sym, ap, Some, ℕ, List}
use Rattle.pl_base.specs.Memory.{layered}
use Rattle.pl_image.specs.declared.loaded_object.LoadedObject.{LoadedObject}
use Rattle.pl_image.specs.Image.{Image, all_pieces}
use Rattle.pl_image.proofs.ByteLemmas.{image_byte, image_none}
use Rattle.pl_image.proofs.image.Image.byte.Goals as goal

pub returns-in_err-below : goal.returns-in_err-below
returns-in_err-below c =
    let same : c.deref.result.now ≡ c.args.self.now.objects = c.deref.ensures.value ∙ ap (λ (i : Image). i.objects) c.self.view_is in
    c.from_residual.ensures ∙ sym (image_none c.args.self.now c.args.address (ap (λ (os : List LoadedObject). layered (all_pieces os) c.args.address) (sym same) ∙ sym c.in_err-below.ensures))

pub returns : goal.returns
returns c =
    let same : c.deref.result.now ≡ c.args.self.now.objects = c.deref.ensures.value ∙ ap (λ (i : Image). i.objects) c.self.view_is in
    ap (λ (b : ℕ). Some b) c.shown.ensures
    ∙ sym (image_byte c.args.self.now c.args.address c.in_ok-below.below (ap (λ (os : List LoadedObject). layered (all_pieces os) c.args.address) (sym same) ∙ sym c.in_ok-below.ensures))
