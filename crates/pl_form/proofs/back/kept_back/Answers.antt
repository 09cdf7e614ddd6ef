use Rattle.std.proofs.Common.{◌≡◌, ℕ, length, subst, rules}
use Rattle.pl_base.specs.Windows.{AllIn}
use Rattle.pl_form.specs.Back.{spot_windows}
use Rattle.pl_form.proofs.BackLaws.{places_fit}
use Rattle.pl_form.proofs.back.kept_back.Goals as goal

pub put_visible-requires : goal.put_visible-requires
put_visible-requires c =
    let fit = places_fit c.len.result c.args.undo.now c.args.dynamic c.args.spots.now c.if-not-fits_places.ensures in
    let same : c.len.result ≡ length c.deref_mut.result.now = search rules in
    record { spots = subst (λ (n : ℕ). AllIn n (spot_windows c.args.spots.now)) same fit.0 }
