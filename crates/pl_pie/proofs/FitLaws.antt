-- An address of the region at which a program fits.
use Rattle.std.proofs.Common.{◌≡◌, ℕ, ◌+◌, ◌%◌, ◌≤◌, true, arith}
use Rattle.std.specs.Prelude.{◌&&◌, ◌==◌, nat_le}
use Rattle.std.proofs.lemmas.Bool.{eqb-true}
use Rattle.std.proofs.lemmas.Bool.Decides.{nat_tests}
use Rattle.pl_elf.specs.declared.constants.TheConstants.{ADDRESS_LIMIT}
use Rattle.pl_object.specs.declared.object.Object.{Object}
use Rattle.pl_pie.specs.Fix.{MayBeFixed, fits}
use Rattle.pl_pie.specs.Laws.{FitsMayBeFixed}
use Rattle.pl_pie.proofs.PieLaws.{and_both}

pub record IsFit (o : Object) (at : ℕ) : Type 0 where
  pub from : 137438953472 ≤ at
  pub may : MayBeFixed o at

pub is_fit : (o : Object) (at : ℕ) → fits o at ≡ true → IsFit o at
unfolding fits
is_fit o at h =
    let a = and_both (at % o.align == 0 && nat_le 137438953472 at) (nat_le (at + o.span) 201863462912) h in
    let b = and_both (at % o.align == 0) (nat_le 137438953472 at) a.0 in
    record { from = above at b.1; may = record { aligned = eqb-true (at % o.align) 0 b.0; ends = below (at + o.span) a.1 } }
  where
    above : (n : ℕ) → nat_le 137438953472 n ≡ true → 137438953472 ≤ n
    above n e = grind (arith, nat_tests)

    below : (n : ℕ) → nat_le n 201863462912 ≡ true → n ≤ ADDRESS_LIMIT
    below n e = grind (arith, nat_tests)

pub fits_may : FitsMayBeFixed
fits_may o at fit = (is_fit o at fit).may
