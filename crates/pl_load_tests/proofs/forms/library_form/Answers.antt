use Rattle.std.proofs.Common.{map, sym, ap, ◌∙◌}
use Rattle.pl_load_tests.proofs.forms.library_form.Goals as goal

pub places_of-requires-clause-spans : goal.places_of-requires-clause-spans
places_of-requires-clause-spans c =
    ap (map (λ s. s.span)) c.as_slice.ensures.value ∙ (c.in_ok-slots.ensures ∙ ap (map (λ o. o.span)) (sym c.in_ok-scope.ensures.objects))
