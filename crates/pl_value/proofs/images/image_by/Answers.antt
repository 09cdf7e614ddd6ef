use Rattle.std.proofs.Common.{refl, ap, ◌∙◌}
use Rattle.pl_image.specs.Image.{Image}
use Rattle.pl_value.proofs.LinkedLaws.{patches_linked}
use Rattle.pl_value.proofs.images.image_by.Goals as goal

pub returns-clause-objects : goal.returns-clause-objects
returns-clause-objects c = ap (λ (i : Image). i.objects) c.in_ok-new.ensures ∙ c.in_ok-loaded.ensures.value

pub returns-clause-patches : goal.returns-clause-patches
returns-clause-patches c =
    patches_linked c.in_ok-new.field-0 c.in_ok-loaded.loaded.items _ c.args.meanings.now _ c.in_ok-patches.patches.items c.in_ok-new.ensures c.in_ok-patches.ensures c.deref.ensures.value refl
