use Rattle.std.proofs.Common.{◌≡◌, sym, ap, ◌∙◌, subst}
use Rattle.std.proofs.lemmas.Bool.{OnTrue_at}
use Rattle.std.specs.List.{list_any}
use Rattle.pl_elf.specs.Ranges.{has}
use Rattle.pl_image.specs.Image.{Image, any_masked}
use Rattle.pl_image.proofs.image.Image.is_shown.Goals as goal

pub returns : goal.returns
returns c = λ t a low high.
    let hidden = subst (λ (i : Image). list_any (has a) c.self.inside.masked.items ≡ any_masked i.objects a) c.self.view_is (c.self.invariant.hidden a) in
    sym hidden ∙ ap (list_any (has a)) (sym c.deref.ensures.value) ∙ OnTrue_at t c.is_clear.ensures a low high
